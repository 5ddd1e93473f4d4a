-- Who is noted with the objects of a sort.
use Rattle.std.proofs.Common.{◌≡◌, ℕ, zero, suc, ◌+◌, ◌*◌, ◌<◌, Bool, true, false, ◌&&◌, ◌||◌, eqb, ltb, List, Some, refl, sym, ap, ◌∙◌, arith}
use Rattle.std.proofs.lemmas.Bool.{and_parts}
use Rattle.std.proofs.lemmas.Bool.Decides.{nat_tests}
use Rattle.access.specs.declared.code.Event.TheVariants.{Inserted, Updated, Deleted}
use Rattle.access.specs.declared.code.Object.{Object}
use Rattle.access.specs.declared.code.Object.TheVariants as object
use Rattle.access.specs.Bits.{bit}
use Rattle.access.specs.Lists.{Lists}
use Rattle.access.specs.Numbers.{right_number}
use Rattle.access.specs.Places.{place_of}
use Rattle.grid.specs.Grids.{noted}
use Rattle.catalogue.specs.Sound.{Sound}
use Rattle.lookup.specs.Tables.{sort_number}
use Rattle.order.specs.Taken.{TakesBit}
use Rattle.runs.specs.Standing.{IsObject, a_procedure, a_trigger, created, entry_right}
use Rattle.holdings.specs.declared.powers.Powers.{Powers}
use Rattle.holdings.specs.Giving.{is_object, enters_by}
use Rattle.holdings.specs.Rows.{has}
use Rattle.fitting.proofs.Smalls.{object_small}
use Rattle.holdings.proofs.Telling.{object_told}

-- the object of a sort in a place
pub object_of : (s p : ℕ) → s < 5 → (x : Object) × (sort_number x ≡ s) × (place_of x ≡ p)
object_of zero p h = (object.Procedure p, refl, refl)
object_of (suc zero) p h = (object.Triggers p Inserted, refl, refl)
object_of (suc (suc zero)) p h = (object.Triggers p Updated, refl, refl)
object_of (suc (suc (suc zero))) p h = (object.Triggers p Deleted, refl, refl)
object_of (suc (suc (suc (suc zero)))) p h = (object.Created p, refl, refl)
object_of (suc (suc (suc (suc (suc n))))) p h = absurd (omega arith)

-- what is added to the slot of one place of a sort
pub slot_added : (p s d k v a : ℕ) (cur new bits : Bool) → p < 96 → d < 96 → k < 5 → new ≡ (cur || ((eqb (p + 96 * s) (d + 96 * k) && ltb (d + 96 * k) 480) && bits))
    → bits ≡ eqb v a → new ≡ (cur || (eqb p d && (eqb s k && eqb v a)))
slot_added p s d k v a cur new bits h l m e f = grind (arith, nat_tests)

-- one sort more is noted
pub sort_added : (s k v a : ℕ) (old cur new bits by : Bool) → cur ≡ (old || (ltb s k && (eqb v a && by))) → new ≡ (cur || (bits && (eqb s k && eqb v a)))
    → (s ≡ k → v ≡ a → bits ≡ by) → new ≡ (old || (ltb s (k + 1) && (eqb v a && by)))
sort_added s k v a old cur new bits by e f g = grind (arith, nat_tests)

-- where nothing is noted yet
pub nothing_yet : (old more : Bool) → old ≡ false → (old || more) ≡ more
nothing_yet old more e = ap (λ (b : Bool). b || more) e

-- before the first sort nothing is added, and after the last one all is
pub none_added : (s : ℕ) (old by : Bool) → old ≡ (old || (ltb s 0 && by))
none_added s old by = grind (arith, nat_tests)

pub all_added : (s n : ℕ) (old by : Bool) → s < n → (old || (ltb s n && by)) ≡ (old || by)
all_added s n old by h = grind (arith, nat_tests)

-- what is left is as small as it was
pub still_below : (d rest next : ℕ) → TakesBit rest (Some d) next → ((z : ℕ) → bit rest z ≡ true → z < 96) → (z : ℕ) → bit next z ≡ true → z < 96
still_below d rest next (here, others) h z t = h z (and_parts (bit rest z) _ (sym (others z) ∙ t)).0

-- a place of a sort where an account has the right is that of an object that it may enter
pub entered_by : (p : Powers) (objects : List ℕ) (x : Object) (v a sort k held row places : ℕ) → ((e : ℕ) → bit held e ≡ has p a k e)
    → ((e : ℕ) → bit row e ≡ noted objects sort e) → ((e : ℕ) → bit places e ≡ (bit held e && bit row e))
    → ((y : Object) → sort_number y ≡ sort → right_number (entry_right y) ≡ k) → sort_number x ≡ sort → v ≡ a
    → bit places (place_of x) ≡ enters_by (has p) objects v x
entered_by p objects x v a sort k held row places o r b right same who =
    b (place_of x)
    ∙ ap (λ (t : Bool). t && bit row (place_of x)) (o (place_of x) ∙ ap (λ (w : ℕ). has p w k (place_of x)) (sym who) ∙ ap (λ (n : ℕ). has p v n (place_of x)) (sym (right x same)))
    ∙ ap (λ (t : Bool). has p v (right_number (entry_right x)) (place_of x) && t) (r (place_of x) ∙ ap (λ (n : ℕ). noted objects n (place_of x)) (sym same))

-- a place in the table of objects is that of an entity
pub object_there : (L : Lists) → Sound L → (x : Object) (b : Bool) → b ≡ is_object L.entities x → b ≡ true → place_of x < 96
object_there L s x b e t = object_small s ((object_told L x).0 (sym e ∙ t))
