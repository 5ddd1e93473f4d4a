-- What is added for each number whose bit stands, as the bits are taken.
use Rattle.std.proofs.Common.{◌≡◌, ℕ, ◌<◌, Bool, true, not, ◌&&◌, ◌||◌, eqb, ltb, Some, sym, ap, ◌∙◌, arith}
use mathlib.Core.Bool.{or-false}
use Rattle.std.proofs.lemmas.Bool.{and_parts}
use Rattle.std.proofs.lemmas.Bool.Decides.{nat_tests}
use Rattle.access.specs.Bits.{bit}
use Rattle.access.proofs.SetLaws.{bit_zero}
use Rattle.order.specs.Taken.{TakesBit}
use Rattle.holdings.specs.Giving.{same_one}

one_taken : (cur new rest next here more : Bool) → next ≡ (rest && not here) → (here ≡ true → rest ≡ true) → new ≡ (cur || (here && more))
    → (new || (next && more)) ≡ (cur || (rest && more))
one_taken cur new rest next here more e h f = grind (arith, nat_tests)

-- one more is taken: what was added and what is left to add are as before
pub bit_taken : (z d rest next : ℕ) (cur new more : Bool) → TakesBit rest (Some d) next → new ≡ (cur || (eqb z d && more))
    → (new || (bit next z && more)) ≡ (cur || (bit rest z && more))
bit_taken z d rest next cur new more (here, others) e =
    one_taken cur new (bit rest z) (bit next z) (eqb z d) more (others z) (λ t. grind (arith, nat_tests)) e

-- none is left
pub none_left : (z rest : ℕ) (cur more all : Bool) → rest ≡ 0 → (cur || (bit rest z && more)) ≡ all → cur ≡ all
none_left z rest cur more all e f = sym (or-false cur) ∙ ap (λ b. cur || (b && more)) (sym (ap (λ (n : ℕ). bit n z) e ∙ bit_zero z)) ∙ f

-- what is added to one row of 96
pub row_added : (z d : ℕ) (cur new bits one : Bool) → new ≡ (cur || ((eqb z d && ltb d 96) && bits)) → bits ≡ one
    → new ≡ (cur || (eqb z d && (ltb z 96 && one)))
row_added z d cur new bits one e f = grind (arith, nat_tests)

-- what is added to one principal
pub one_added : (p d : ℕ) (cur new more : Bool) → new ≡ (cur || (same_one p d && more)) → new ≡ (cur || (eqb p d && (ltb p 96 && more)))
one_added p d cur new more e = grind (arith, nat_tests)

-- what is left is small
pub still_small : (d rest next : ℕ) → TakesBit rest (Some d) next → ((z : ℕ) → bit rest z ≡ true → z < 128) → (z : ℕ) → bit next z ≡ true → z < 128
still_small d rest next (here, others) h z t = h z (and_parts (bit rest z) _ (sym (others z) ∙ t)).0
