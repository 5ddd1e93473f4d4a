-- Claims about books, and a table of claims that hold.
use Rattle.std.specs.Prelude.{◌≡◌, ℕ, ◌<◌, true, false, List, [], ◌∷◌, ◌++◌, replicate, slice_index}
use Rattle.access.specs.declared.rights.Right.{Right}
use Rattle.access.specs.declared.rights.Right.TheVariants.{Insert, Execute, Impersonate}
use Rattle.access.specs.Bits.{bit}
use Rattle.access.specs.Lists.{◌∈◌, Lists}
use Rattle.book.specs.declared.calls.Call.{Call}
use Rattle.book.specs.Gathered.{lists_after}
use Rattle.runs.specs.declared.steps.Step.{Step}
use Rattle.runs.specs.declared.steps.Step.TheVariants.{Switch, Grant}
use Rattle.runs.specs.Rights.{right_record}
use Rattle.runs.specs.Runs.{UseBy, HoldBy, Use, Hold}
use Rattle.runs.specs.Laboratory.{lab_steps}
use Rattle.survey.specs.Used.{IsRow}
use Rattle.examples.specs.Calls.{laboratory, without_alter}
use Rattle.cases.specs.Books.{by_caller, with_option, with_sysadmin}

-- a right is used by some account acted as, or held by the opener itself
pub data Sense : Type 0 where
  to_use to_hold : Sense

abbrev pub By : Lists → ℕ → List Step → Sense → ℕ → Right → Type 0
By L a steps to_use e r = UseBy L a steps e r
By L a steps to_hold e r = HoldBy L a steps e r

abbrev pub Can : Lists → ℕ → Sense → ℕ → Right → Type 0
Can L a to_use e r = Use L a e r
Can L a to_hold e r = Hold L a e r

-- what can be claimed of the accounts of a book
pub data Claim : Type 0 where
  -- yes: the steps are a run of a session of the account to the right
  by : ℕ → List Step → Sense → ℕ → Right → Claim
  -- no run of a session of the account comes to the right
  never : ℕ → Sense → ℕ → Right → Claim
  -- the account has this row
  shows : ℕ → List ℕ → Claim
  -- the two accounts have these rows, the first row contains the second, and they differ
  exceeds : ℕ → ℕ → List ℕ → List ℕ → Claim

pub record Exceeds (L : Lists) (a b : ℕ) (more less : List ℕ) : Type 0 where
  pub first : IsRow L a more
  pub second : IsRow L b less
  pub contains : (e k : ℕ) → e < 96 → bit (slice_index less e) k ≡ true → bit (slice_index more e) k ≡ true
  pub differ : more ≡ less → ⊥

abbrev pub Meaning : Lists → Claim → Type 0
Meaning L (by a steps s e r) = By L a steps s e r
Meaning L (never a s e r) = Can L a s e r → ⊥
Meaning L (shows a row) = IsRow L a row
Meaning L (exceeds a b more less) = Exceeds L a b more less

-- a claim about the book that these building calls put together
pub record Case : Type 0 where
  pub calls : List Call
  pub claim : Claim

abbrev pub about : List Call → Claim → Case
about calls claim = record { calls = calls; claim = claim }

-- the row of these nine bytes, and then zeros
abbrev pub filled : List ℕ → List ℕ
filled bytes = bytes ++ replicate 87 0

-- account 8 acts as account 4
abbrev pub switch : Step
switch = Switch 8 4

-- and grants itself execute on procedure 7
abbrev pub grant : Step
grant = Grant 4 (right_record 8 7 Execute false)

abbrev pub cases : List Case
cases =
    about laboratory (by 4 lab_steps to_use 3 Impersonate)
    ∷ about without_alter (never 4 to_use 3 Impersonate)
    ∷ about by_caller (never 4 to_use 3 Impersonate)
    ∷ about by_caller (never 4 to_use 6 Insert)
    ∷ about without_alter (by 8 (switch ∷ []) to_use 7 Execute)
    ∷ about without_alter (never 8 to_hold 7 Execute)
    ∷ about with_option (by 8 (switch ∷ []) to_use 7 Execute)
    ∷ about with_option (by 8 (switch ∷ grant ∷ []) to_hold 7 Execute)
    ∷ about laboratory
    (exceeds 8 4
    (filled (0 ∷ 0 ∷ 0 ∷ 127 ∷ 127 ∷ 127 ∷ 127 ∷ 127 ∷ 127 ∷ []))
    (filled (0 ∷ 0 ∷ 0 ∷ 127 ∷ 127 ∷ 127 ∷ 127 ∷ 127 ∷ 0 ∷ [])))
    ∷ about with_sysadmin (shows 4 (filled (replicate 9 127)))
    ∷ []

-- each claim of the table holds of its book
abbrev pub EachCase : Type 0
EachCase = (c : Case) → c ∈ cases → Meaning (lists_after c.calls) c.claim
