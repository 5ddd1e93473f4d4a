-- What holds of all exposures.
use Rattle.std.proofs.Common.{◌≡◌, ℕ, zero, suc, ◌*◌, ◌≤◌, ◌<◌, true, false, List, [], ◌∷◌, length, get_or, sym, ap, ◌∙◌, ⊎_elim, arith}
use Rattle.std.proofs.Math.Nat.{div-le_of_le-mul}
use Rattle.std.proofs.lemmas.Bool.{cases_Bool}
use Rattle.std.proofs.lemmas.List.Sums.{sum_by-cons}
use Rattle.access.specs.Bits.{bit}
use Rattle.access.specs.Lists.{Lists}
use Rattle.catalogue.proofs.Standing.{nth_below}
use Rattle.runs.proofs.RightLaws.{holds_stands}
use Rattle.survey.specs.Used.{IsRow}
use Rattle.survey.proofs.Telling.{one_row}
use Rattle.listing.specs.Exposures.{ones_of, ones, share}
use Rattle.listing.specs.Laws.{OneExposure, ExposuresBounded}
use Rattle.listing.proofs.Counting.{ones_of_few}

-- a byte without a right has no ones
none_of : (n : ℕ) → ((k : ℕ) → bit n k ≡ false) → ones_of n ≡ 0
none_of n h = rw (h 0, h 1, h 2, h 3, h 4, h 5, h 6)

-- where the bytes from the n-th on have no rights, there are at most seven ones for each of the first n
ones_front : (row : List ℕ) (n : ℕ) → ((e k : ℕ) → n ≤ e → e < length row → bit (get_or row e 0) k ≡ false) → ones row ≤ 7 * n
ones_front [] n h = omega arith
ones_front (x ∷ row) zero h =
    let none = none_of x (λ k. h 0 k (omega arith) (omega arith)) in
    let rest = ones_front row zero (λ e k l m. h (suc e) k (omega arith) (omega arith)) in
    omega (arith, sum_by-cons ones_of x row, none, rest)
ones_front (x ∷ row) (suc n) h =
    let rest = ones_front row n (λ e k l m. h (suc e) k (omega arith) (omega arith)) in
    omega (arith, sum_by-cons ones_of x row, ones_of_few x, rest)

-- a row has ones only for what stands
row_ones : (L : Lists) (a : ℕ) (row : List ℕ) → IsRow L a row → ones row ≤ 7 * length L.entities
row_ones L a row i = ones_front row (length L.entities) (λ e k l m. ⊎_elim (λ t. absurd (past e k l m t)) (λ f. f) (cases_Bool (bit (get_or row e 0) k)))
  where
    past : (e k : ℕ) → length L.entities ≤ e → e < length row → bit (get_or row e 0) k ≡ true → ⊥
    past e k l m t =
        let (r, n, used) = (i.bits e k (omega (arith, i.long))).0 t in
        let below = nth_below L.entities e (holds_stands used.1.holds) in
        absurd (omega arith)

pub exposures_bounded : ExposuresBounded
exposures_bounded L a x (row, i, e) =
    let n = length L.entities in
    let few = row_ones L a row i in
    let most : share (ones row) n ≤ 1000 = div-le_of_le-mul (7 * n) (omega (arith, few)) in
    omega (arith, e, most)

pub one_exposure : OneExposure
one_exposure L a x y (row, i, e) (other, j, f) = e ∙ ap (λ r. share (ones r) (length L.entities)) (one_row L a row other i j) ∙ sym f
