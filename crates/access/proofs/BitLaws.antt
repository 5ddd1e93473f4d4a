-- Laws of `bit`. Assumes nothing.
use Rattle.std.proofs.Common.{◌≡◌, ℕ, zero, suc, ◌+◌, ◌-◌, ◌*◌, ◌/◌, ◌%◌, ◌^◌, ◌<◌, ◌||◌, eqb, ◌⊎◌, sym, ap, ◌∙◌, inl, inr, ⊎_elim, arith}
use native.Mathlib.Nat.{two-pow-succ, div-eq_of_lt}
use lib.Bits.{bit_and, bit_or}
use Rattle.std.proofs.lemmas.Nat.{one_shl, or_shr, or_mod, shr-shr, shl-shr, pow-add, pow_below}
use Rattle.std.proofs.lemmas.Nat.Bits.{shr_and_one}
use Rattle.std.proofs.lemmas.Bool.{eq-eqb, ne_eqb, cases_order}
use Rattle.std.proofs.lemmas.Bool.Decides.{nat_tests}
use Rattle.access.specs.Bits.{bit}

two : (n : ℕ) → (n % 2 ≡ 0) ⊎ (n % 2 ≡ 1)
two n = grind arith

or_bits : (a b : ℕ) → (a ≡ 0) ⊎ (a ≡ 1) → (b ≡ 0) ⊎ (b ≡ 1) → eqb (bit_or a b) 1 ≡ (eqb a 1 || eqb b 1)
or_bits a b (inl p) (inl q) = rw (p, q)
or_bits a b (inl p) (inr q) = rw (p, q)
or_bits a b (inr p) (inl q) = rw (p, q)
or_bits a b (inr p) (inr q) = rw (p, q)

pub bit_or_lem : (a b r : ℕ) → bit (bit_or a b) r ≡ (bit a r || bit b r)
unfolding bit
bit_or_lem a b r =
    ap (λ (x : ℕ). eqb (x % 2) 1) (or_shr a b r)
    ∙ ap (λ (x : ℕ). eqb x 1) (or_mod (a / 2 ^ r) (b / 2 ^ r) 1)
    ∙ or_bits _ _ (two (a / 2 ^ r)) (two (b / 2 ^ r))

-- the bits of a power of two
two_even : (n : ℕ) → 0 < n → 2 ^ n % 2 ≡ 0
two_even zero h = absurd (omega arith)
two_even (suc n) h = let e = two-pow-succ n in omega arith

up : (j k d : ℕ) → d + k ≡ j → 2 ^ j / 2 ^ k ≡ 2 ^ d
up j k d e = ap (λ (x : ℕ). 2 ^ x / 2 ^ k) (sym e) ∙ ap (λ (x : ℕ). x / 2 ^ k) (pow-add 2 d k) ∙ shl-shr (2 ^ d) k

pub bit_power : (j k : ℕ) → bit (2 ^ j) k ≡ eqb k j
unfolding bit
bit_power j k =
    ⊎_elim
    (λ (h : k ≡ j).
    let z : 2 ^ j / 2 ^ k % 2 ≡ 1 = ap (λ (x : ℕ). x % 2) (up j k 0 (omega arith)) in
    ap (λ (x : ℕ). eqb x 1) z ∙ sym (eq-eqb k j h))
    (⊎_elim
    (λ (h : k < j).
    let d : ℕ = j - k in
    let p : 0 < d = omega arith in
    let z : 2 ^ j / 2 ^ k % 2 ≡ 0 = ap (λ (x : ℕ). x % 2) (up j k d (omega arith)) ∙ two_even d p in
    ap (λ (x : ℕ). eqb x 1) z ∙ sym (ne_eqb k j (omega arith)))
    (λ (h : j < k).
    let z : 2 ^ j / 2 ^ k ≡ 0 = div-eq_of_lt (pow_below j k h) in
    ap (λ (x : ℕ). eqb (x % 2) 1) z ∙ sym (ne_eqb k j (omega arith))))
    (cases_order k j)

-- `1 << n` at w bits
pub bit_shl : (w n k : ℕ) → n < w → bit (1 * 2 ^ n % 2 ^ w) k ≡ eqb k n
bit_shl w n k h = ap (λ (b : ℕ). bit b k) (one_shl n w h) ∙ bit_power n k

-- the test `(n >> k) & 1`
pub bit_test : (n k : ℕ) → eqb (bit_and (n / 2 ^ k) 1) 1 ≡ bit n k
unfolding bit
bit_test n k = ap (λ (x : ℕ). eqb x 1) (shr_and_one n k)

-- a half has the bits one lower
half : (n r : ℕ) → bit (n / 2) r ≡ bit n (1 + r)
unfolding bit
half n r = ap (λ (x : ℕ). eqb (x % 2) 1) (shr-shr n 1 r)

low : (n m : ℕ) → bit n 0 ≡ bit m 0 → n % 2 ≡ m % 2
unfolding bit
low n m e = grind (arith, nat_tests)

-- two numbers of k bits with the same bits are one number
pub same_bits : (k n m : ℕ) → n < 2 ^ k → m < 2 ^ k → ((r : ℕ) → r < k → bit n r ≡ bit m r) → n ≡ m
same_bits zero n m p q h = omega arith
same_bits (suc k) n m p q h =
    let e = two-pow-succ k in
    let l : n % 2 ≡ m % 2 = low n m (h 0 (omega arith)) in
    let u : n / 2 ≡ m / 2 = same_bits k (n / 2) (m / 2) (omega arith) (omega arith)
    (λ r s. half n r ∙ h (1 + r) (omega arith) ∙ sym (half m r)) in
    omega arith
