-- Objects of a sort, and their places.
use Rattle.std.proofs.Common.{◌≡◌, ℕ, true, ◌&&◌, Decides, sym, ap, ◌∙◌}
use Rattle.std.proofs.lemmas.Bool.{and_from, and_parts}
use Rattle.access.specs.declared.code.Object.{Object}
use Rattle.access.specs.Bits.{bit}
use Rattle.access.specs.Lists.{Lists}
use Rattle.access.specs.Places.{place_of}
use Rattle.grid.specs.Grids.{noted}
use Rattle.lookup.specs.Tables.{sort_number}
use Rattle.runs.specs.Standing.{IsObject}
use Rattle.holdings.specs.declared.tables.Holdings.{Holdings}
use Rattle.holdings.specs.Told.{Told}

-- the places of a set that have an object of a sort
pub objects_row : {L : Lists} {h : Holdings} → Told L h → (sort places row both : ℕ) → ((e : ℕ) → bit row e ≡ noted h.objects.rows sort e)
    → ((e : ℕ) → bit both e ≡ (bit places e && bit row e)) → (x : Object) → sort_number x ≡ sort
    → Decides (bit both (place_of x)) ((bit places (place_of x) ≡ true) × IsObject L x)
objects_row {L} {h} told sort places row both r b x n =
    let same : bit row (place_of x) ≡ noted h.objects.rows (sort_number x) (place_of x) =
    r (place_of x) ∙ ap (λ (k : ℕ). noted h.objects.rows k (place_of x)) (sym n) in (
      λ t. let (p, q) = and_parts _ _ (sym (b (place_of x)) ∙ t) in (p, (told.objects x).0 (sym same ∙ q)),
      λ (p, o). b (place_of x) ∙ and_from _ _ p (same ∙ (told.objects x).1 o),
    )
