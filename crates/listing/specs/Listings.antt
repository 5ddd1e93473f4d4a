-- The text of a listing: a line for each account, in the order of their numbers.
use Rattle.std.specs.Prelude.{◌≡◌, ℕ, zero, suc, ◌+◌, ◌*◌, ◌/◌, ◌%◌, cond, List, [], ◌∷◌, ◌++◌, map, length, slice_index, nat_lt, Ok, Err, Result}
use Rattle.access.specs.declared.refusals.Refusal.TheVariants.{NoRoom}
use Rattle.access.specs.declared.entities.Entity.{Entity}
use Rattle.access.specs.Bits.{bit}
use Rattle.access.specs.Codes.{Code, code}
use Rattle.access.specs.Lists.{Lists, fits, is_account}
use Rattle.survey.specs.Used.{IsRow}
use Rattle.listing.specs.Exposures.{ones, share}

-- the accounts among the first n entities, in order
abbrev pub accounts_below : List Entity → ℕ → List ℕ
accounts_below es zero = []
accounts_below es (suc n) = accounts_below es n ++ cond (fits is_account es n) (n ∷ []) []

abbrev pub accounts_of : List Entity → List ℕ
accounts_of es = accounts_below es (length es)

-- Digits are the bytes from 48 on, a space is 32, and a line feed 10.

-- the digit of a number for tens, hundreds and so on
abbrev pub digit : ℕ → ℕ → ℕ
digit place n = 48 + n / place % 10

abbrev pub two_digits : ℕ → List ℕ
two_digits n = digit 10 n ∷ digit 1 n ∷ []

abbrev pub four_digits : ℕ → List ℕ
four_digits n = digit 1000 n ∷ digit 100 n ∷ digit 10 n ∷ digit 1 n ∷ []

-- the digit 1 where the row has the right of number 6, which is to impersonate, on an account, else 0
abbrev pub mark : List ℕ → ℕ → ℕ
mark row a = 48 + cond (bit (slice_index row a) 6) 1 0

-- the line of an account with a row
abbrev pub line_of : List Entity → ℕ → List ℕ → List ℕ
line_of es a row =
    two_digits a ++ (32 ∷ []) ++ map (mark row) (accounts_of es) ++ (32 ∷ []) ++ four_digits (share (ones row) (length es)) ++ (10 ∷ [])

-- the line of account a
abbrev pub IsLine : Lists → ℕ → List ℕ → Type 0
IsLine L a line = (row : List ℕ) × IsRow L a row × (line ≡ line_of L.entities a row)

-- the text is a line for each of some accounts, one after another
abbrev pub Lines : Lists → List ℕ → List ℕ → Type 0
Lines L [] text = text ≡ []
Lines L (a ∷ accounts) text = (line rest : List ℕ) × IsLine L a line × Lines L accounts rest × (text ≡ line ++ rest)

-- the text is the listing
abbrev pub Listing : Lists → List ℕ → Type 0
Listing L text = Lines L (accounts_of L.entities) text

-- how many bytes a listing has
abbrev pub size_of : List Entity → ℕ
size_of es = length (accounts_of es) * (length (accounts_of es) + 9)

-- what the call returns: the length, or 6 where the room is too small
abbrev pub listing_answer : List Entity → ℕ → Result ℕ Code
listing_answer es room = cond (nat_lt room (size_of es)) (Err (code NoRoom)) (Ok (size_of es))
