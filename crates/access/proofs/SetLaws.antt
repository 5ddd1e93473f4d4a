-- Laws of sets of rights and of rows of them.
use Rattle.std.proofs.Common.{◌≡◌, ℕ, zero, suc, ◌%◌, ◌^◌, ◌<◌, ◌≤◌, false, eqb, ltb, List, [], ◌∷◌, length, get_or, sym, refl, ap, ◌∙◌, lt_of_lt_of_le, arith, lit<, pow_mono}
use native.Mathlib.Nat.{zero-div, div-eq_of_lt}
use Rattle.std.proofs.lemmas.Bool.{le-ltb}
use Rattle.access.specs.Bits.{bit}
use Rattle.access.specs.Sets.{byte_at, told}
use Rattle.access.specs.declared.sets.RightSet.{RightSet}

pub bit_zero : (k : ℕ) → bit 0 k ≡ false
unfolding bit
bit_zero k = ap (λ (x : ℕ). eqb (x % 2) 1) (zero-div (2 ^ k))

-- a number below a power of two has no bit from there on
pub bit_past : (n m k : ℕ) → n < 2 ^ m → m ≤ k → bit n k ≡ false
unfolding bit
bit_past n m k h l = ap (λ (x : ℕ). eqb (x % 2) 1) (div-eq_of_lt (lt_of_lt_of_le h (pow_mono l)))

pub bit_full : (k : ℕ) → bit 127 k ≡ ltb k 7
unfolding bit
bit_full zero = refl
bit_full (suc zero) = refl
bit_full (suc (suc zero)) = refl
bit_full (suc (suc (suc zero))) = refl
bit_full (suc (suc (suc (suc zero)))) = refl
bit_full (suc (suc (suc (suc (suc zero))))) = refl
bit_full (suc (suc (suc (suc (suc (suc zero)))))) = refl
bit_full (suc (suc (suc (suc (suc (suc (suc k))))))) = bit_past 127 7 (suc (suc (suc (suc (suc (suc (suc k))))))) (lit< tt) (omega arith) ∙ sym (le-ltb _ 7 (omega arith))

-- no set has a right past the seven
pub told_past : (ss : List RightSet) (x k : ℕ) → 7 ≤ k → told ss x k ≡ false
told_past [] x k l = bit_zero k
told_past (s ∷ ss) zero k l = bit_past s.bits 7 k s.small l
told_past (s ∷ ss) (suc x) k l = told_past ss x k l

pub byte_get_or : (ss : List RightSet) (x : ℕ) (d : RightSet) → x < length ss → byte_at ss x ≡ (get_or ss x d).bits
byte_get_or [] x d h = absurd (omega arith)
byte_get_or (s ∷ ss) zero d h = refl
byte_get_or (s ∷ ss) (suc x) d h = byte_get_or ss x d (omega arith)
