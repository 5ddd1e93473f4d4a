-- Bytes by the bits in them.
use Rattle.std.proofs.Common.{not, ◌&&◌, ◌||◌, ◌≡◌, ℕ, zero, suc, ◌+◌, ◌<◌, ◌^◌, Bool, true, eqb, List, [], ◌∷◌, ◌++◌, length, take, get_or, Decides, subst, refl, sym, ap, ◌∙◌, ⊎_elim, arith, lt_of_lt_of_le, pow_mono}
use Rattle.std.specs.List.{list_all, zip}
use native.Mathlib.Nat.{two-pow-succ}
use lib.Bits.{bit_or}
use Rattle.std.proofs.lemmas.Bool.{eqb-true, eq-eqb, and_parts, and_from, or_cases, or_left, or_right}
use Rattle.std.proofs.lemmas.Bool.Decides.{same_from_decides, nat_tests}
use Rattle.std.proofs.lemmas.List.{ext_get_or}
use Rattle.std.proofs.Math.Seq.{take-append_seam}
use Rattle.access.specs.Bits.{bit}
use Rattle.access.proofs.BitLaws.{same_bits, bit_or_lem}
use Rattle.rows.specs.Rows.{IsUnion}

-- tests that are true together are one
pub tests_same : (b c : Bool) → (b ≡ true → c ≡ true) → (c ≡ true → b ≡ true) → b ≡ c
tests_same b c f g = same_from_decides b c (f, g) (λ e. e, λ e. e)

below_power : (n : ℕ) → n < 2 ^ n
below_power zero = omega arith
below_power (suc n) = let e = two-pow-succ n in let h = below_power n in omega arith

-- numbers with the same bits are one number
pub bits_same : (n m : ℕ) → ((k : ℕ) → bit n k ≡ bit m k) → n ≡ m
bits_same n m h =
    let p : n < 2 ^ (n + m) = lt_of_lt_of_le (below_power n) (pow_mono (omega arith)) in
    let q : m < 2 ^ (n + m) = lt_of_lt_of_le (below_power m) (pow_mono (omega arith)) in
    same_bits (n + m) n m p q (λ k _. h k)

-- rows with the same bits are one row
pub rows_same : (xs ys : List ℕ) → length xs ≡ 96 → length ys ≡ 96
    → ((e k : ℕ) → e < 96 → bit (get_or xs e 0) k ≡ bit (get_or ys e 0) k) → xs ≡ ys
rows_same xs ys p q h = ext_get_or 0 xs ys (p ∙ sym q) (λ e l. bits_same _ _ (λ k. h e k (omega arith)))

-- the first row has every bit of the second
abbrev pub Contains : List ℕ → List ℕ → Type 0
Contains xs ys = (e k : ℕ) → e < 96 → bit (get_or ys e 0) k ≡ true → bit (get_or xs e 0) k ≡ true

pub same_contains : {xs ys : List ℕ} → xs ≡ ys → Contains xs ys
same_contains s e k l t = subst (λ (r : List ℕ). bit (get_or r e 0) k ≡ true) (sym s) t

-- rows that contain one another are one row
pub contained_same : (xs ys : List ℕ) → length xs ≡ 96 → length ys ≡ 96 → Contains xs ys → Contains ys xs → xs ≡ ys
contained_same xs ys p q f g = rows_same xs ys p q (λ e k l. tests_same _ _ (g e k l) (f e k l))

-- a row is its union with the rows that it contains, and with no other
pub contains_union : (xs ys zs : List ℕ) → length xs ≡ 96 → length zs ≡ 96 → IsUnion xs ys zs → Contains xs ys → xs ≡ zs
contains_union xs ys zs p q u c =
    contained_same xs zs p q
    (λ e k l t. ⊎_elim (λ h. h) (c e k l) (or_cases _ _ (sym (u e k l) ∙ t)))
    (λ e k l t. u e k l ∙ or_left _ _ t)

pub union_contains : (xs ys zs : List ℕ) → IsUnion xs ys zs → xs ≡ zs → Contains xs ys
union_contains xs ys zs u s e k l t = ap (λ (r : List ℕ). bit (get_or r e 0) k) s ∙ u e k l ∙ or_right _ _ t

-- a number is its union with one of which it has every bit, and with no other
pub or_has : (x y k : ℕ) → bit_or x y ≡ x → bit y k ≡ true → bit x k ≡ true
or_has x y k s t = ap (λ (n : ℕ). bit n k) (sym s) ∙ bit_or_lem x y k ∙ or_right _ _ t

pub has_or : (x y : ℕ) → ((k : ℕ) → bit y k ≡ true → bit x k ≡ true) → bit_or x y ≡ x
has_or x y h =
    bits_same _ _
    (λ k. bit_or_lem x y k ∙ tests_same _ _ (λ t. ⊎_elim (λ e. e) (h k) (or_cases _ _ t)) (or_left _ _))

-- a test of each pair of bytes tells whether one row contains another
abbrev pub has_other : ℕ × ℕ → Bool
has_other p = eqb (bit_or p.0 p.1) p.0

all_to : (xs ys : List ℕ) → length xs ≡ length ys → list_all has_other (zip xs ys) ≡ true
    → (e k : ℕ) → e < length xs → bit (get_or ys e 0) k ≡ true → bit (get_or xs e 0) k ≡ true
all_to [] ys n t e k h = absurd (omega arith)
all_to (x ∷ xs) [] n t e k h = absurd (omega arith)
all_to (x ∷ xs) (y ∷ ys) n t zero k h = or_has x y k (eqb-true _ _ (and_parts _ _ t).0)
all_to (x ∷ xs) (y ∷ ys) n t (suc e) k h = all_to xs ys (omega arith) (and_parts _ _ t).1 e k (omega arith)

all_from : (xs ys : List ℕ) → length xs ≡ length ys → ((e k : ℕ) → e < length xs → bit (get_or ys e 0) k ≡ true → bit (get_or xs e 0) k ≡ true)
    → list_all has_other (zip xs ys) ≡ true
all_from [] ys n f = refl
all_from (x ∷ xs) [] n f = absurd (omega arith)
all_from (x ∷ xs) (y ∷ ys) n f =
    and_from _ _ (eq-eqb _ _ (has_or x y (λ k. f 0 k (omega arith)))) (all_from xs ys (omega arith) (λ e k l. f (suc e) k (omega arith)))

pub contains_told : (xs ys : List ℕ) → length xs ≡ 96 → length ys ≡ 96 → Decides (list_all has_other (zip xs ys)) (Contains xs ys)
contains_told xs ys p q =
    (λ t e k l. all_to xs ys (p ∙ sym q) t e k (omega arith), λ f. all_from xs ys (p ∙ sym q) (λ e k l. f e k (omega arith)))

-- a row at the front of a list
pub front : (row rest : List ℕ) → length row ≡ 96 → take 96 (row ++ rest) ≡ row
front row rest n = subst (λ (k : ℕ). take k (row ++ rest) ≡ row) n (take-append_seam row rest)

-- a bit of a byte, once one entity more is taken: those that were taken have the right
pub taken_bit : (first old new here right among rest next : Bool) → new ≡ (old || (here && right)) → old ≡ (first || (right && (among && not rest)))
    → next ≡ (rest && not here) → (here ≡ true → among ≡ true) → new ≡ (first || (right && (among && not next)))
taken_bit first old new here right among rest next n o m a = grind (arith, nat_tests)
