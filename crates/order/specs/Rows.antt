-- An order as rows of bits: bit y of row x says that x is at or below y.
use Rattle.std.specs.Prelude.{◌≡◌, ℕ, Bool, true, ◌&&◌, List, slice_index}
use Rattle.access.specs.Bits.{bit}

-- bit y of row x, false past the end
abbrev pub leq : List ℕ → ℕ → ℕ → Bool
leq rows x y = bit (slice_index rows x) y

-- the rows are an order; each law has few binders, so that the checker sees that it has one proof
abbrev pub Transitive : List ℕ → Type 0
Transitive rows = (t : ℕ × ℕ × ℕ) → (leq rows t.0 t.1 && leq rows t.1 t.2) ≡ true → leq rows t.0 t.2 ≡ true

abbrev pub Antisymmetric : List ℕ → Type 0
Antisymmetric rows = (x y : ℕ) → (leq rows x y && leq rows y x) ≡ true → x ≡ y
