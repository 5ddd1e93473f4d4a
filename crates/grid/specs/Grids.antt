-- Tables of bits.
use Rattle.std.specs.Prelude.{ℕ, Bool, List, slice_index}
use Rattle.access.specs.Bits.{bit}

-- bit y of row x, false past the end
abbrev pub noted : List ℕ → ℕ → ℕ → Bool
noted rows x y = bit (slice_index rows x) y
