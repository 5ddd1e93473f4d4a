-- What holds of each number whose bit was taken holds of all, once no bit is left.
use Rattle.std.proofs.Common.{◌≡◌, ℕ, ◌-◌, ◌^◌, ◌<◌, true, false, not, ◌&&◌, ◌⊎◌, Some, sym, ap, ◌∙◌, subst, inl, inr, ⊎_elim, eqb, min, arith}
use Rattle.std.proofs.lemmas.Bool.{cases_eq, cases_lt, cases_Bool, ne_eqb, both_ways, and_from, and_left, and_parts}
use Rattle.std.proofs.lemmas.Bool.Decides.{nat_tests}
use Rattle.std.proofs.lemmas.Nat.{and_le_l}
use Rattle.std.proofs.lemmas.Nat.Bits.{bit_at_and, bit_at_not, bit_at-lt}
use Rattle.std.specs.Int.{bit_at, bit_not}
use lib.Bits.{bit_and}
use mir.Syntax.{w128}
use Rattle.access.specs.Bits.{bit}
use Rattle.access.proofs.SetLaws.{bit_zero, bit_past}
use Rattle.order.specs.Taken.{TakesBit}

-- a set of 128 bits without another
without_bits : (x y : ℕ) → x < 2 → y < 2 → eqb (min x (1 - y)) 1 ≡ (eqb x 1 && not (eqb y 1))
without_bits x y h l = grind (arith, nat_tests)

inside : (a b v : ℕ) → b < 2 ^ 128 → v < 128 → bit (bit_and a (bit_not w128 b)) v ≡ (bit a v && not (bit b v))
unfolding bit
inside a b v l i =
    ap (λ (n : ℕ). eqb n 1) (bit_at_and a (bit_not w128 b) v ∙ ap (λ (n : ℕ). min (bit_at a v) n) (bit_at_not w128 b v l i))
    ∙ without_bits (bit_at a v) (bit_at b v) (bit_at-lt a v) (bit_at-lt b v)

pub bit_without : (a b v : ℕ) → a < 2 ^ 128 → b < 2 ^ 128 → bit (bit_and a (bit_not w128 b)) v ≡ (bit a v && not (bit b v))
bit_without a b v h l =
    ⊎_elim (inside a b v l) (λ i. bit_past _ 128 v (omega (arith, and_le_l a (bit_not w128 b))) i ∙ sym (and_left _ _ (bit_past a 128 v h i))) (cases_lt v 128)

-- each number of D is among the bits that are left, or has P
pub record Left (D P : ℕ → Type 0) (rest : ℕ) : Type 0 where
  pub small : (v : ℕ) → bit rest v ≡ true → v < 128
  pub left : (v : ℕ) → D v → (bit rest v ≡ true) ⊎ P v

pub bit_small : (n : ℕ) → n < 2 ^ 128 → (v : ℕ) → bit n v ≡ true → v < 128
bit_small n h v t = ⊎_elim (λ l. l) (λ l. absurd (both_ways _ (bit_past n 128 v h l) t)) (cases_lt v 128)

module _ (D : ℕ → Type 0) where
  -- all of D are left but those that have P
  pub left_first : (P : ℕ → Type 0) (rest : ℕ) → rest < 2 ^ 128 → ((v : ℕ) → D v → bit rest v ≡ false → P v) → Left D P rest
  left_first P rest h others = record { small = bit_small rest h; left = λ v d. ⊎_elim (λ t. inl t) (λ f. inr (others v d f)) (cases_Bool (bit rest v)) }

  -- all of D are left but those of another set, which have P
  pub left_without : (P : ℕ → Type 0) (bits other rest : ℕ) → rest < 2 ^ 128 → ((v : ℕ) → bit rest v ≡ (bit bits v && not (bit other v)))
      → ((v : ℕ) → D v → bit bits v ≡ true) → ((v : ℕ) → D v → bit other v ≡ true → P v) → Left D P rest
  left_without P bits other rest h e all there = record {
    small = bit_small rest h;
    left = λ v d. ⊎_elim (λ t. inr (there v d t)) (λ f. inl (e v ∙ and_from _ _ (all v d) (ap not f))) (cases_Bool (bit other v));
  }

  -- one number is taken, and has Q; what has P has Q too
  pub left_more : (P Q : ℕ → Type 0) (rest y next : ℕ) → TakesBit rest (Some y) next → ((v : ℕ) → P v → Q v) → (D y → Q y) → Left D P rest → Left D Q next
  left_more P Q rest y next (here, others) later this s = record {
    small = λ v t. s.small v (and_parts (bit rest v) _ (sym (others v) ∙ t)).0;
    left = λ v d. ⊎_elim
        (λ r. ⊎_elim (λ (e : v ≡ y). inr (subst Q (sym e) (this (subst D e d)))) (λ ne. inl (others v ∙ and_from _ _ r (ap not (ne_eqb v y ne)))) (cases_eq v y))
        (λ p. inr (later v p))
        (s.left v d);
  }

  -- no number is left
  pub left_none : (P : ℕ → Type 0) (rest : ℕ) → rest ≡ 0 → Left D P rest → (v : ℕ) → D v → P v
  left_none P rest e s v d = ⊎_elim (λ r. absurd (both_ways _ (ap (λ (n : ℕ). bit n v) e ∙ bit_zero v) r)) (λ p. p) (s.left v d)
