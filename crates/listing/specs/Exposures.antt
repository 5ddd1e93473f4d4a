-- What an account is exposed to: how much of all that there is its sessions can come to use.
use Rattle.std.specs.Prelude.{◌≡◌, ℕ, ◌*◌, ◌/◌, List, [], ◌∷◌, length, count_by, sum_by}
use Rattle.access.specs.Bits.{bit}
use Rattle.access.specs.Lists.{Lists}
use Rattle.survey.specs.Used.{IsRow}

-- the numbers of the rights
abbrev pub right_numbers : List ℕ
right_numbers = 0 ∷ 1 ∷ 2 ∷ 3 ∷ 4 ∷ 5 ∷ 6 ∷ []

-- how many rights a byte of a row has
abbrev pub ones_of : ℕ → ℕ
ones_of byte = count_by (bit byte) right_numbers

-- how many ones a row has
abbrev pub ones : List ℕ → ℕ
ones row = sum_by ones_of row

-- a count of ones in thousandths of the places for ones, seven for each entity, rounded down
abbrev pub share : ℕ → ℕ → ℕ
share count entities = count * 1000 / (7 * entities)

-- the exposure of account a
abbrev pub Exposed : Lists → ℕ → ℕ → Type 0
Exposed L a x = (row : List ℕ) × IsRow L a row × (x ≡ share (ones row) (length L.entities))
