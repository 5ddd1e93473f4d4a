-- How many ones a byte has and there can be, and how many entities.
use Rattle.std.proofs.Common.{◌≡◌, ℕ, ◌*◌, ◌/◌, ◌%◌, ◌^◌, ◌≤◌, cond, List, [], ◌∷◌, map, length, ap, ◌∙◌, subst, sym, arith}
use Rattle.std.specs.Prelude.{bit_and, count_ones}
use Rattle.std.specs.Simd.Lanes.{mask_l}
use Rattle.std.proofs.lemmas.Nat.{and_mask}
use Rattle.std.proofs.lemmas.Simd.{ones-mask_l}
use Rattle.std.proofs.lemmas.Bool.Decides.{nat_tests}
use Rattle.std.proofs.lemmas.List.Sums.{count_by-le-length, sum_by-cons}
use Rattle.access.specs.Bits.{bit}
use Rattle.access.specs.Lists.{Lists}
use Rattle.catalogue.specs.Sound.{Sound}
use Rattle.catalogue.proofs.Declaring.{declared_long, entities_few}
use Rattle.listing.specs.Exposures.{right_numbers, ones_of, ones}

-- a byte has no more rights than there are
pub ones_of_few : (n : ℕ) → ones_of n ≤ 7
ones_of_few n = count_by-le-length (bit n) right_numbers

-- a bit as a number
digit : (n k : ℕ) → cond (bit n k) 1 0 ≡ n / 2 ^ k % 2
unfolding bit
digit n k = grind (arith, nat_tests)

-- the low seven bits are those of the rights
low_bits : (n : ℕ) → bit_and n 127 ≡ mask_l (map (bit n) right_numbers)
low_bits n = and_mask n 7 ∙ omega (arith, digit n 0, digit n 1, digit n 2, digit n 3, digit n 4, digit n 5, digit n 6)

-- the rights of a byte are as many as its low seven bits that are set
pub ones_counted : (n : ℕ) → count_ones (bit_and n 127) ≡ ones_of n
ones_counted n = ap count_ones (low_bits n) ∙ ones-mask_l (bit n) right_numbers

pub ones_counted_few : (n : ℕ) → count_ones (bit_and n 127) ≤ 7
ones_counted_few n = subst (λ m. m ≤ 7) (sym (ones_counted n)) (ones_of_few n)

pub ones_few : (row : List ℕ) → ones row ≤ 7 * length row
ones_few [] = omega arith
ones_few (n ∷ row) = omega (arith, ones_of_few n, ones_few row, sum_by-cons ones_of n row)

-- how many entities a sound catalogue has
pub sound_sized : (L : Lists) → Sound L → (3 ≤ length L.entities) × (length L.entities ≤ 96)
sound_sized L s = (declared_long L.entities s.entities, entities_few L.entities s.entities)
