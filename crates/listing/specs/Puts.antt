-- Bytes written into a room one after another.
use Rattle.std.specs.Prelude.{◌≡◌, ℕ, ◌+◌, ◌≤◌, List, ◌++◌, length, take, drop}

-- the room has the bytes from a place on, up to the place after them, and is else as it was
pub record Puts (at : ℕ) (bytes old new : List ℕ) (after : ℕ) : Type 0 where
  pub inside : at + length bytes ≤ length old
  pub place : after ≡ at + length bytes
  pub room : new ≡ take at old ++ (bytes ++ drop (at + length bytes) old)
