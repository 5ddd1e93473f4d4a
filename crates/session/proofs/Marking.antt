-- Marks that a loop over records makes.
use Rattle.std.proofs.Common.{◌≡◌, ℕ, zero, suc, ◌+◌, ◌<◌, Bool, ◌&&◌, ◌||◌, eqb, List, [], ◌∷◌, length, get_or, take, add-one, refl, ap, ◌∙◌, arith}
use Rattle.std.proofs.lemmas.Bool.Decides.{nat_tests}
use Rattle.access.specs.declared.entities.Entity.{Entity}
use Rattle.access.specs.declared.sets.RightSet.{RightSet}
use Rattle.access.specs.Sets.{told}
use Rattle.session.specs.Marks.{owned}

-- one entity more
owned_next : (who : List RightSet) (es : List Entity) (i x : ℕ) (d : Entity) → i < length es
    → owned who (take (suc i) es) x ≡ (owned who (take i es) x || (eqb x i && told who (get_or es i d).owner 0))
owned_next who [] i x d h = absurd (omega arith)
owned_next who (e ∷ es) zero zero d h = refl
owned_next who (e ∷ es) zero (suc x) d h = grind (arith, nat_tests)
owned_next who (e ∷ es) (suc i) zero d h = grind (arith, nat_tests)
owned_next who (e ∷ es) (suc i) (suc x) d h =
    let same : eqb x i ≡ eqb (suc x) (suc i) = grind (arith, nat_tests) in
    owned_next who es i x d (omega arith) ∙ ap (λ (b : Bool). owned who (take i es) x || (b && told who (get_or es i d).owner 0)) same

pub owned_more : (who : List RightSet) (es : List Entity) (i x : ℕ) (d : Entity) → i < length es
    → owned who (take (i + 1) es) x ≡ (owned who (take i es) x || (eqb x i && told who (get_or es i d).owner 0))
owned_more who es i x d h = rw add-one (owned_next who es i x d h)
