-- Laws of relations as rows of bits.
use Rattle.std.proofs.Common.{◌≡◌, ℕ, zero, suc, ◌+◌, ◌<◌, ◌≤◌, Bool, true, false, ◌&&◌, ◌||◌, eqb, ltb, List, length, set, replicate, Decides, sym, ap, ◌∙◌, ⊎_elim, arith}
use mathlib.Core.Bool.{or-false}
use Rattle.std.proofs.lemmas.List.{get_or_past, get_or-set_same, get_or-set_other}
use Rattle.std.proofs.lemmas.Bool.{cases_eq, and_parts, eq-eqb, ne_eqb}
use Rattle.std.proofs.lemmas.Bool.Decides.{nat_tests}
use Rattle.access.specs.Bits.{bit}
use Rattle.access.proofs.SetLaws.{bit_zero}
use Rattle.order.specs.Rows.{leq, Transitive, Antisymmetric}

pub leq_past : (rows : List ℕ) (x y : ℕ) → length rows ≤ x → leq rows x y ≡ false
leq_past rows x y h = ap (λ (r : ℕ). bit r y) (get_or_past rows x 0 h) ∙ bit_zero y

pub clear_rows : (n x y : ℕ) → leq (replicate n 0) x y ≡ false
clear_rows zero x y = bit_zero y
clear_rows (suc n) zero y = bit_zero y
clear_rows (suc n) (suc x) y = clear_rows n x y

-- the row at x gets more bits
pub leq_more : (rows : List ℕ) (x row : ℕ) (more : ℕ → Bool) → x < length rows → ((y : ℕ) → bit row y ≡ (leq rows x y || more y))
    → (z y : ℕ) → leq (set rows x row) z y ≡ (leq rows z y || (eqb z x && more y))
leq_more rows x row more h own z y =
    ⊎_elim
    (λ (e : z ≡ x). ap (λ (j : ℕ). leq (set rows x row) j y) e ∙ ap (λ (r : ℕ). bit r y) (get_or-set_same rows x row 0 h) ∙ own y
    ∙ ap (λ (j : ℕ). leq rows j y || more y) (sym e) ∙ ap (λ b. leq rows z y || (b && more y)) (sym (eq-eqb z x e)))
    (λ ne. ap (λ (r : ℕ). bit r y) (get_or-set_other rows x z row 0 ne) ∙ sym (or-false (leq rows z y))
    ∙ ap (λ b. leq rows z y || (b && more y)) (sym (ne_eqb z x ne)))
    (cases_eq z x)

-- what holds below i, and at i
pub one_more : (k i : ℕ) (p b old new : Bool) → old ≡ (ltb k i && p) → new ≡ (old || (eqb k i && b)) → (k ≡ i → b ≡ p) → new ≡ (ltb k (i + 1) && p)
one_more k i p b old new d n e = grind (arith, nat_tests)

pub one_first : (k i : ℕ) (p old new : Bool) → old ≡ (ltb k i && p) → new ≡ (old || eqb k i) → (k ≡ i → p ≡ true) → new ≡ (ltb k (i + 1) && p)
one_first k i p old new d n e = grind (arith, nat_tests)

pub one_none : (k i : ℕ) (p old : Bool) → old ≡ (ltb k i && p) → (k ≡ i → p ≡ false) → old ≡ (ltb k (i + 1) && p)
one_none k i p old d e = grind (arith, nat_tests)

joined : (k i : ℕ) (a l r m old : Bool) → old ≡ (a || (ltb k i && (l && m))) → (k ≡ i → r ≡ l) → (old || (eqb k i && (r && m))) ≡ (a || (ltb k (i + 1) && (l && m)))
joined k i a l r m old d e = grind (arith, nat_tests)

-- the row at i gets more bits if it has one, and those before it have them already
pub join_step : (s0 s t : List ℕ) (lower more i new : ℕ) → i < length s → t ≡ set s i new
    → ((k y : ℕ) → leq s k y ≡ (leq s0 k y || (ltb k i && (leq s0 k lower && bit more y))))
    → ((y : ℕ) → bit new y ≡ (leq s i y || (leq s i lower && bit more y)))
    → (k y : ℕ) → leq t k y ≡ (leq s0 k y || (ltb k (i + 1) && (leq s0 k lower && bit more y)))
join_step s0 s t lower more i new h e done own k y =
    ap (λ (r : List ℕ). leq r k y) e ∙ leq_more s i new (λ y. leq s i lower && bit more y) h own k y
    ∙ joined k i (leq s0 k y) (leq s0 k lower) (leq s i lower) (bit more y) (leq s k y) (done k y) (λ e. grind (arith, nat_tests, done i lower))

-- rows that decide an order have its laws
module _ (rows : List ℕ) (below : ℕ → ℕ → Type 0) (exact : (x y : ℕ) → Decides (leq rows x y) (below x y)) where
  pub rows_transitive : ((x y z : ℕ) → below x y → below y z → below x z) → Transitive rows
  rows_transitive f (x, y, z) h =
      let (p, q) = and_parts (leq rows x y) (leq rows y z) h in
      (exact x z).1 (f x y z ((exact x y).0 p) ((exact y z).0 q))

  pub rows_antisymmetric : ((x y : ℕ) → below x y → below y x → x ≡ y) → Antisymmetric rows
  rows_antisymmetric f x y h =
      let (p, q) = and_parts (leq rows x y) (leq rows y x) h in
      f x y ((exact x y).0 p) ((exact y x).0 q)
