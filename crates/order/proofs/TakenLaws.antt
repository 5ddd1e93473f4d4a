-- Taking the lowest bit of a number.
use Rattle.std.proofs.Common.{◌≡◌, ℕ, zero, suc, ◌+◌, ◌-◌, ◌*◌, ◌/◌, ◌%◌, ◌^◌, ◌<◌, ◌≢◌, true, false, not, ◌&&◌, eqb, Some, lit<, sym, ap, ◌∙◌, ⊎_elim, arith}
use lib.Bits.{bit_and}
use mathlib.Core.Bool.{and-true}
use mir.Syntax.{w128}
use Rattle.std.specs.Int.{bit_at, bit_not, trailing_zeros}
use Rattle.std.specs.Int.Bits.{and_self}
use Rattle.std.proofs.lemmas.Nat.{and_block, and_comm, and-not, one_shl, pow_below, pow_pos}
use Rattle.std.proofs.lemmas.Nat.Bits.{and_pow, bit_at-trailing_zeros, bit_at_lowest, bit_at-suc, bit_at_clear_same, bit_at_clear_other}
use Rattle.std.proofs.lemmas.Bool.{cases_eq, cases_lt, eq-eqb, ne_eqb, and_right}
use native.Mathlib.Nat.{two-pow-succ}
use Rattle.access.specs.Bits.{bit}
use Rattle.access.proofs.SetLaws.{bit_past}
use Rattle.order.specs.Taken.{TakesBit}

-- the bits n without the lowest
abbrev pub cleared : ℕ → ℕ
cleared n = bit_and n (n - 1)

cleared_odd : (n h : ℕ) → n ≡ h * 2 + 1 → cleared n + 1 ≡ n
cleared_odd n h e =
    let low : n - 1 ≡ h * 2 + 0 = omega arith in
    let parts : cleared n ≡ bit_and (h * 2 + 1) (h * 2 + 0) = ap (λ (m : ℕ). bit_and m (n - 1)) e ∙ ap (λ (m : ℕ). bit_and (h * 2 + 1) m) low in
    let block = and_block 1 h h 1 0 (lit< tt) (lit< tt) in
    let own = and_self h in
    omega arith

cleared_even : (n h : ℕ) → n ≡ h * 2 + 0 → 0 < h → cleared n ≡ cleared h * 2
cleared_even n h e some =
    let low : n - 1 ≡ (h - 1) * 2 + 1 = omega arith in
    let parts : cleared n ≡ bit_and (h * 2 + 0) ((h - 1) * 2 + 1) = ap (λ (m : ℕ). bit_and m (n - 1)) e ∙ ap (λ (m : ℕ). bit_and (h * 2 + 0) m) low in
    let block = and_block 1 h (h - 1) 0 1 (lit< tt) (lit< tt) in
    omega arith

-- the lowest bit is taken away
cleared_lowest : (k n : ℕ) → ((i : ℕ) → i < k → bit_at n i ≡ 0) → bit_at n k ≡ 1 → cleared n + 2 ^ k ≡ n
cleared_lowest zero n none here =
    let odd : n % 2 ≡ 1 = sym (bit_at_lowest n) ∙ here in cleared_odd n (n / 2) (omega arith)
cleared_lowest (suc k) n none here =
    let even : n % 2 ≡ 0 = sym (bit_at_lowest n) ∙ none 0 (omega arith) in
    let half = cleared_lowest k (n / 2) (λ i h. sym (bit_at-suc n i) ∙ none (suc i) (omega arith)) (sym (bit_at-suc n k) ∙ here) in
    let some = pow_pos k in
    let twice = cleared_even n (n / 2) (omega arith) (omega arith) in
    let power = two-pow-succ k in
    omega arith

module _ (n : ℕ) (some : 0 < n) (small : n < 2 ^ 128) where
  lowest : (trailing_zeros w128 n < 128) × (bit_at n (trailing_zeros w128 n) ≡ 1) × ((i : ℕ) → i < trailing_zeros w128 n → bit_at n i ≡ 0)
  lowest = bit_at-trailing_zeros w128 n some small

  lowest_is : bit n (trailing_zeros w128 n) ≡ true
  unfolding bit
  lowest_is = eq-eqb _ 1 lowest.1

  taken : cleared n + 2 ^ trailing_zeros w128 n ≡ n
  taken = cleared_lowest (trailing_zeros w128 n) n lowest.2 lowest.1

  masked : bit_and n (bit_not w128 (2 ^ trailing_zeros w128 n)) + 2 ^ trailing_zeros w128 n ≡ n
  masked =
      let k : ℕ = trailing_zeros w128 n in
      let parts = and-not 128 (2 ^ k) n (pow_below k 128 lowest.0) small in
      let turned = and_comm n (2 ^ 128 - 1 - 2 ^ k) in
      let own = and_pow n k ∙ ap (λ (b : ℕ). b * 2 ^ k) lowest.1 in
      let back = and_comm n (2 ^ k) in
      omega arith

  -- the same by a mask
  same : cleared n ≡ bit_and n (bit_not w128 (1 * 2 ^ trailing_zeros w128 n % 2 ^ 128))
  same =
      let a = taken in
      let b = masked in
      let e : cleared n ≡ bit_and n (bit_not w128 (2 ^ trailing_zeros w128 n)) = omega arith in
      e ∙ ap (λ (m : ℕ). bit_and n (bit_not w128 m)) (sym (one_shl (trailing_zeros w128 n) 128 lowest.0))

  gone : bit (cleared n) (trailing_zeros w128 n) ≡ false
  unfolding bit
  gone =
      ap (λ (m : ℕ). bit m (trailing_zeros w128 n)) same
      ∙ ap (λ (b : ℕ). eqb b 1) (bit_at_clear_same w128 n (trailing_zeros w128 n) lowest.0)

  others : (z : ℕ) → z < 128 → z ≢ trailing_zeros w128 n → bit (cleared n) z ≡ bit n z
  unfolding bit
  others z h ne =
      ap (λ (m : ℕ). bit m z) same ∙ ap (λ (b : ℕ). eqb b 1) (bit_at_clear_other w128 n (trailing_zeros w128 n) lowest.0 z h ne)

  pub less : cleared n < n
  less = let a = taken in let p = pow_pos (trailing_zeros w128 n) in omega arith

  pub takes : TakesBit n (Some (trailing_zeros w128 n)) (cleared n)
  takes = (
    lowest_is,
    λ z. ⊎_elim
        (λ (e : z ≡ trailing_zeros w128 n). ap (bit (cleared n)) e ∙ gone ∙ sym (and_right (bit n z) _ (ap not (eq-eqb z _ e))))
        (λ ne. ⊎_elim (λ h. others z h ne)
        (λ h. bit_past (cleared n) 128 z (let l = less in omega arith) h ∙ sym (bit_past n 128 z small h)) (cases_lt z 128)
        ∙ sym (ap (λ b. bit n z && not b) (ne_eqb z _ ne) ∙ and-true (bit n z)))
        (cases_eq z (trailing_zeros w128 n)),
  )
