-- What an account's row of 96 bytes tells: bit k of byte e is set exactly where its sessions can come to use right k on entity e.
use Rattle.std.specs.Prelude.{◌≡◌, ℕ, ◌<◌, List, length, slice_index, Decides}
use Rattle.access.specs.declared.rights.Right.{Right}
use Rattle.access.specs.Bits.{bit}
use Rattle.access.specs.Lists.{Lists}
use Rattle.access.specs.Numbers.{right_number}
use Rattle.runs.specs.Runs.{ActsAs, Use}
use Rattle.survey.specs.declared.comparing.Comparison.{Comparison}

-- a session of a can come to use the right of number k on entity e
abbrev pub UsedAt : Lists → ℕ → ℕ → ℕ → Type 0
UsedAt L a e k = (r : Right) × (right_number r ≡ k) × Use L a e r

-- the bytes are the row of account a
pub record IsRow (L : Lists) (a : ℕ) (row : List ℕ) : Type 0 where
  pub long : length row ≡ 96
  pub bits : (e k : ℕ) → e < 96 → Decides (bit (slice_index row e) k) (UsedAt L a e k)

-- the comparison tells which of accounts a and b can come to act as the other
pub record Compared (L : Lists) (a b : ℕ) (c : Comparison) : Type 0 where
  pub contains : Decides c.first_contains (ActsAs L a b)
  pub contained : Decides c.second_contains (ActsAs L b a)
