-- Rows of accounts: 96 bytes, of which byte e is for entity e, and bit a of that byte for right a.
use Rattle.std.specs.Prelude.{◌≡◌, ℕ, ◌<◌, nat_le, Bool, ◌||◌, cond, List, length, slice_index, Ok, Err, Result}
use Rattle.std.specs.List.{list_all}
use Rattle.access.specs.declared.refusals.Refusal.TheVariants.{NoRoom}
use Rattle.access.specs.Codes.{Code, code}
use Rattle.access.specs.Bits.{bit}

-- whether a row stands at the front of the bytes
abbrev pub has_row : List ℕ → Bool
has_row bytes = nat_le 96 (length bytes)

-- what a call on rows returns: 6 where one of them is under 96 bytes
abbrev pub row_answer : {X : Type 0} → List (List ℕ) → X → Result X Code
row_answer rows x = cond (list_all has_row rows) (Ok x) (Err (code NoRoom))

-- a one exactly where either row has a one
abbrev pub IsUnion : List ℕ → List ℕ → List ℕ → Type 0
IsUnion first second union = (e k : ℕ) → e < 96 → bit (slice_index union e) k ≡ (bit (slice_index first e) k || bit (slice_index second e) k)
