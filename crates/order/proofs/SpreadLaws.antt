-- Laws of what is carried along an order.
use Rattle.std.proofs.Common.{◌≡◌, ℕ, ◌<◌, Bool, true, false, not, ◌&&◌, ◌||◌, eqb, min, ◌⊎◌, Some, Decides, sym, ap, ◌∙◌, inl, inr, ⊎_elim, arith}
use lib.Bits.{bit_and}
use Rattle.std.proofs.lemmas.Bool.{cases_eq, ne_eqb, both_ways, and_from, and_parts, or_cases, or_left, or_right}
use Rattle.std.proofs.lemmas.Bool.Decides.{nat_tests}
use Rattle.std.proofs.lemmas.Nat.Bits.{bit_at_and, bit_at-lt}
use Rattle.access.specs.Bits.{bit}
use Rattle.access.proofs.SetLaws.{bit_zero}
use Rattle.order.specs.Spreads.{Carried}
use Rattle.order.specs.Taken.{TakesBit}

both_bits : (p q : ℕ) → p < 2 → q < 2 → eqb (min p q) 1 ≡ (eqb p 1 && eqb q 1)
both_bits p q h l = grind (arith, nat_tests)

-- what is in two sets
pub bit_both : (a b y : ℕ) → bit (bit_and a b) y ≡ (bit a y && bit b y)
unfolding bit
bit_both a b y = ap (λ (m : ℕ). eqb m 1) (bit_at_and a b y) ∙ both_bits _ _ (bit_at-lt a y) (bit_at-lt b y)

-- the bits `rest` are places that x is at or below; what is gathered is carried, and what is missing is at a place in `rest`
pub record Gathered (below : ℕ → ℕ → Type 0) (base : ℕ → ℕ → Bool) (n x : ℕ) (all : ℕ → Bool) (rest : ℕ) : Type 0 where
  pub above : (y : ℕ) → bit rest y ≡ true → below x y
  pub carried : (k : ℕ) → all k ≡ true → Carried below base n x k
  pub left : (y k : ℕ) → below x y → base y k ≡ true → (all k ≡ true) ⊎ (bit rest y ≡ true)

-- nothing is gathered yet
pub gathered_none : (below : ℕ → ℕ → Type 0) (base : ℕ → ℕ → Bool) (n x : ℕ) (all : ℕ → Bool) (rest : ℕ)
    → ((k : ℕ) → all k ≡ false) → (over places : ℕ) → rest ≡ bit_and over places → ((y : ℕ) → Decides (bit over y) (below x y))
    → ((y k : ℕ) → base y k ≡ true → bit places y ≡ true) → Gathered below base n x all rest
gathered_none below base n x all rest none over places e d some =
    let both : (y : ℕ) → bit rest y ≡ (bit over y && bit places y) = λ y. ap (λ (m : ℕ). bit m y) e ∙ bit_both over places y in
    record {
      above = λ y t. (d y).0 (and_parts (bit over y) _ (sym (both y) ∙ t)).0;
      carried = λ k t. absurd (both_ways _ (none k) t);
      left = λ y k b h. inr (both y ∙ and_from _ _ ((d y).1 b) (some y k h));
    }

module _ (below : ℕ → ℕ → Type 0) (base : ℕ → ℕ → Bool) (n x : ℕ) (all : ℕ → Bool) (rest : ℕ) (s : Gathered below base n x all rest) where
  -- one place more
  pub gather_more : (past : (y k : ℕ) → base y k ≡ true → y < n) (y : ℕ) (more : ℕ → Bool) (next : ℕ)
      → ((k : ℕ) → more k ≡ (all k || base y k)) → TakesBit rest (Some y) next → Gathered below base n x more next
  gather_more past y more next e (here, others) = record {
    above = λ z t. s.above z (and_parts (bit rest z) _ (sym (others z) ∙ t)).0;
    carried = λ k t. ⊎_elim (s.carried k) (λ b. record { from = y; small = past y k b; over = s.above y here; has = b }) (or_cases (all k) (base y k) (sym (e k) ∙ t));
    left = λ z k b h. ⊎_elim (λ o. inl (e k ∙ or_left (all k) _ o))
        (λ r. ⊎_elim (λ (q : z ≡ y). inl (e k ∙ or_right (all k) _ (sym (ap (λ (j : ℕ). base j k) q) ∙ h)))
        (λ ne. inr (others z ∙ and_from _ _ r (ap not (ne_eqb z y ne))))
        (cases_eq z y))
        (s.left z k b h);
  }

  -- no place is left
  pub gathered_all : rest ≡ 0 → (k : ℕ) → Decides (all k) (Carried below base n x k)
  gathered_all e k = (
    s.carried k,
    λ c. ⊎_elim (λ o. o) (λ r. absurd (both_ways _ (ap (λ (m : ℕ). bit m c.from) e ∙ bit_zero c.from) r)) (s.left c.from k c.over c.has),
  )

-- where no place has a right, none is carried
pub carried_none : (below : ℕ → ℕ → Type 0) (base : ℕ → ℕ → Bool) (n x k places : ℕ) (b : Bool)
    → ((y k : ℕ) → base y k ≡ true → bit places y ≡ true) → places ≡ 0 → b ≡ false → Decides b (Carried below base n x k)
carried_none below base n x k places b some e none = (
  λ t. absurd (both_ways _ none t),
  λ c. absurd (both_ways _ (ap (λ (m : ℕ). bit m c.from) e ∙ bit_zero c.from) (some c.from k c.has)),
)
