-- A set that gets its missing elements one by one.
use Rattle.std.proofs.Common.{◌≡◌, ℕ, ◌^◌, ◌<◌, Bool, true, false, not, ◌&&◌, ◌||◌, ◌⊎◌, eqb, Some, sym, ap, ◌∙◌, inl, inr, ⊎_elim}
use Rattle.std.proofs.lemmas.Bool.{cases_eq, cases_Bool, both_ways, and_from, and_parts, not-true, eq-eqb, or_from, or_left, or_right, ne_eqb}
use Rattle.access.specs.Bits.{bit}
use Rattle.order.specs.Taken.{TakesBit}
use Rattle.grid.proofs.Bitwise.{bit_small}
use Rattle.access.proofs.SetLaws.{bit_zero}

-- the rest are the elements of D that the set does not have yet
pub record Filling (D : ℕ → Type 0) (set : ℕ → Bool) (rest : ℕ) : Type 0 where
  pub small : (v : ℕ) → bit rest v ≡ true → v < 128
  pub wanted : (v : ℕ) → bit rest v ≡ true → D v
  pub fresh : (v : ℕ) → bit rest v ≡ true → set v ≡ false
  pub left : (v : ℕ) → D v → (bit rest v ≡ true) ⊎ (set v ≡ true)

-- once a number is taken from a set, the others are left
pub left_still : (rest y next : ℕ) → TakesBit rest (Some y) next → (v : ℕ) → bit next v ≡ true → bit rest v ≡ true
left_still rest y next taken v t = (and_parts (bit rest v) (not (eqb v y)) (sym (taken.1 v) ∙ t)).0

module _ (D : ℕ → Type 0) where
  -- at first the rest are all elements but those that the set has
  pub filling_first : (set : ℕ → Bool) (rest : ℕ) (bits : ℕ → Bool) → rest < 2 ^ 128 → ((v : ℕ) → bit rest v ≡ (bits v && not (set v)))
      → ((v : ℕ) → bits v ≡ true → D v) → ((v : ℕ) → D v → bits v ≡ true) → Filling D set rest
  filling_first set rest bits h e to from = record {
    small = bit_small rest h;
    wanted = λ v t. to v (and_parts (bits v) (not (set v)) (sym (e v) ∙ t)).0;
    fresh = λ v t. not-true (set v) (and_parts (bits v) (not (set v)) (sym (e v) ∙ t)).1;
    left = λ v d. ⊎_elim (λ t. inr t) (λ f. inl (e v ∙ and_from (bits v) (not (set v)) (from v d) (ap not f))) (cases_Bool (set v));
  }

  module _ (old new : ℕ → Bool) (rest y next : ℕ) (takes : TakesBit rest (Some y) next) where
    other : (v : ℕ) → bit next v ≡ true → eqb v y ≡ false
    other v t = not-true (eqb v y) (and_parts (bit rest v) (not (eqb v y)) (sym (takes.1 v) ∙ t)).1

    -- the set gets the element that is taken
    pub filling_more : ((v : ℕ) → new v ≡ (old v || eqb v y)) → Filling D old rest → Filling D new next
    filling_more more f = record {
      small = λ v t. f.small v (left_still rest y next takes v t);
      wanted = λ v t. f.wanted v (left_still rest y next takes v t);
      fresh = λ v t. more v ∙ or_from (old v) (eqb v y) (f.fresh v (left_still rest y next takes v t)) (other v t);
      left = λ v d. ⊎_elim
          (λ r. ⊎_elim
          (λ (e : v ≡ y). inr (more v ∙ or_right (old v) (eqb v y) (eq-eqb v y e)))
          (λ ne. inl (takes.1 v ∙ and_from (bit rest v) (not (eqb v y)) r (ap not (ne_eqb v y ne))))
          (cases_eq v y))
          (λ s. inr (more v ∙ or_left (old v) (eqb v y) s))
          (f.left v d);
    }

  -- once there is no rest the set has all
  pub filling_none : (set : ℕ → Bool) (rest : ℕ) → rest ≡ 0 → Filling D set rest → (v : ℕ) → D v → set v ≡ true
  filling_none set rest e f v d = ⊎_elim (λ r. absurd (both_ways _ (ap (λ (n : ℕ). bit n v) e ∙ bit_zero v) r)) (λ s. s) (f.left v d)
