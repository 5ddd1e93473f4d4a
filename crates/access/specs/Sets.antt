-- What a row of sets of rights says.
use Rattle.std.specs.Prelude.{ℕ, zero, suc, Bool, List, [], ◌∷◌}
use Rattle.access.specs.Bits.{bit}
use Rattle.access.specs.declared.sets.RightSet.{RightSet}

-- the byte of the set at a place, 0 past the end
abbrev pub byte_at : List RightSet → ℕ → ℕ
byte_at [] x = 0
byte_at (s ∷ ss) zero = s.bits
byte_at (s ∷ ss) (suc x) = byte_at ss x

-- whether the right of number k is in the set at x
abbrev pub told : List RightSet → ℕ → ℕ → Bool
told row x k = bit (byte_at row x) k
