-- Where an account may enter the objects of a sort.
use Rattle.std.proofs.Common.{◌≡◌, ℕ, ◌<◌, ◌∙◌, Bool, true, ◌&&◌, sym, ap, arith}
use Rattle.std.proofs.lemmas.Bool.{and_parts, and_from}
use Rattle.access.specs.declared.entities.Kind.TheVariants.{Account}
use Rattle.access.specs.declared.code.Object.{Object}
use Rattle.access.specs.Bits.{bit}
use Rattle.access.specs.Lists.{Lists}
use Rattle.access.specs.Numbers.{right_number}
use Rattle.access.specs.Places.{place_of}
use Rattle.grid.specs.Grids.{noted}
use Rattle.catalogue.specs.Sound.{Sound}
use Rattle.lookup.specs.Tables.{sort_number}
use Rattle.runs.specs.Standing.{Is, IsObject, entry_right}
use Rattle.runs.specs.Saturated.{Rule}
use Rattle.holdings.specs.declared.tables.Holdings.{Holdings}
use Rattle.holdings.specs.Told.{Told}
use Rattle.extent.specs.declared.extents.Extent.{Extent}
use Rattle.extent.specs.Tests.{held}
use Rattle.extent.specs.Growth.{Larger}
use Rattle.extent.specs.Turns.{Enters}
use Rattle.extent.proofs.Holding.{held_later, held_larger}
use Rattle.fitting.proofs.Smalls.{object_small}
use Rattle.holdings.proofs.Entering.{object_of}

-- the places of a sort where account a may enter the object
pub record Places (h : Holdings) (s : Extent) (a sort : ℕ) (places : ℕ) : Type 0 where
  pub tell : (x : Object) → sort_number x ≡ sort
      → bit places (place_of x) ≡ (held h s a (right_number (entry_right x)) (place_of x) && noted h.objects.rows (sort_number x) (place_of x))

pub places_from : (h : Holdings) (s : Extent) (a sort k word row places : ℕ) → ((e : ℕ) → bit word e ≡ held h s a k e) → ((e : ℕ) → bit row e ≡ noted h.objects.rows sort e)
    → ((e : ℕ) → bit places e ≡ (bit word e && bit row e)) → ((x : Object) → sort_number x ≡ sort → right_number (entry_right x) ≡ k) → Places h s a sort places
places_from h s a sort k word row places p q both right = record {
  tell = λ x same.
      both (place_of x)
      ∙ ap (λ (b : Bool). b && bit row (place_of x)) (p (place_of x) ∙ ap (λ (n : ℕ). held h s a n (place_of x)) (sym (right x same)))
      ∙ ap (λ (b : Bool). held h s a (right_number (entry_right x)) (place_of x) && b) (q (place_of x) ∙ ap (λ (n : ℕ). noted h.objects.rows n (place_of x)) (sym same));
}

module _ {L : Lists} {h : Holdings} {s : Extent} {a sort places : ℕ} (told : Told L h) (p : Places h s a sort places) where
  place_parts : (x : Object) → sort_number x ≡ sort → bit places (place_of x) ≡ true → IsObject L x × (held h s a (right_number (entry_right x)) (place_of x) ≡ true)
  place_parts x same t =
      let (holds, there) = and_parts (held h s a (right_number (entry_right x)) (place_of x)) (noted h.objects.rows (sort_number x) (place_of x)) (sym (p.tell x same) ∙ t) in
      ((told.objects x).0 there, holds)

  pub place_in : {old : Extent} → Larger old s → (x : Object) → sort_number x ≡ sort → IsObject L x → held h old a (right_number (entry_right x)) (place_of x) ≡ true
      → bit places (place_of x) ≡ true
  place_in larger x same o t =
      p.tell x same
      ∙ and_from (held h s a (right_number (entry_right x)) (place_of x)) (noted h.objects.rows (sort_number x) (place_of x))
      (held_larger larger h a (right_number (entry_right x)) (place_of x) t) ((told.objects x).1 o)

  pub place_small : Sound L → sort < 5 → (e : ℕ) → bit places e ≡ true → e < 96
  place_small sound l e t =
      let (x, same, at) = object_of sort e l in
      let small : place_of x < 96 = object_small sound (place_parts x same (ap (bit places) at ∙ t)).0 in
      omega arith

  pub place_enters : Is L Account a → bit s.acted a ≡ true → (x : Object) → sort_number x ≡ sort → bit places (place_of x) ≡ true → Enters L s x a
  place_enters i acted x same t u F larger shows =
      let (o, holds) = place_parts x same t in
      Rule.call ((shows.acted a).0 (larger.acted a acted)) o (held_later told larger shows i (place_of x) (entry_right x) holds)
