-- Taking the bits of a number one by one.
use Rattle.std.specs.Prelude.{◌≡◌, ℕ, true, not, ◌&&◌, ◌==◌, Option, None, Some}
use Rattle.access.specs.Bits.{bit}

-- from the bits s one is taken, and t is left; no bit is taken where none stands
abbrev pub TakesBit : ℕ → Option ℕ → ℕ → Type 0
TakesBit s None t = (s ≡ 0) × (t ≡ 0)
TakesBit s (Some y) t = (bit s y ≡ true) × ((z : ℕ) → bit t z ≡ (bit s z && not (z == y)))
