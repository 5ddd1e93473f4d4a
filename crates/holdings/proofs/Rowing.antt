-- Rows of principals that get more.
use Rattle.std.proofs.Common.{◌≡◌, ℕ, ◌+◌, ◌*◌, ◌<◌, Bool, ◌&&◌, ◌||◌, eqb, ltb, ap, ◌∙◌, arith}
use Rattle.std.proofs.lemmas.Bool.Decides.{nat_tests}
use Rattle.holdings.specs.Giving.{same_one}

-- each principal has a row of its own for each right
row_same : (p q j k : ℕ) → j < 7 → k < 7 → (eqb (p * 7 + j) (q * 7 + k) && ltb (q * 7 + k) 672) ≡ (same_one p q && eqb j k)
row_same p q j k h l = grind (arith, nat_tests)

pub row_given : (p q j k : ℕ) (old new more : Bool) → j < 7 → k < 7 → new ≡ (old || ((eqb (p * 7 + j) (q * 7 + k) && ltb (q * 7 + k) 672) && more))
    → new ≡ (old || ((same_one p q && eqb j k) && more))
row_given p q j k old new more h l e = e ∙ ap (λ b. old || (b && more)) (row_same p q j k h l)
