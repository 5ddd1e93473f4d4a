-- What a replay returns.
use Rattle.std.specs.Prelude.{◌≡◌, ℕ, zero, suc, ◌<◌, ◌≤◌, Bool, not, ◌&&◌, List, [], ◌∷◌, length, take, is_some, Some, Ok, Err, Result, nat_lt}
use Rattle.std.specs.List.{slice_get}
use Rattle.std.specs.Option.{unwrap_or}
use Rattle.access.specs.declared.refusals.Refusal.TheVariants.{NotListed, WrongKind, NoRoom, NotAllowed}
use Rattle.access.specs.declared.entities.Entity.{Entity}
use Rattle.access.specs.declared.rights.Right.{Right}
use Rattle.access.specs.declared.rights.Right.TheVariants.{Select}
use Rattle.access.specs.Codes.{Code, code}
use Rattle.access.specs.Lists.{◌∈◌, Lists, stands, fits, is_account}
use Rattle.access.specs.Numbers.{right_at}
use Rattle.catalogue.specs.Judgements.{Reason, judged}
use Rattle.runs.specs.declared.steps.Step.{Step}
use Rattle.runs.specs.States.{State, start}
use Rattle.runs.specs.Rights.{Holds}
use Rattle.runs.specs.Runs.{Allowed, Run, UseBy, HoldBy}

-- account and entity stand, right and sense are listed
abbrev pub question_listed : List Entity → ℕ → ℕ → ℕ → ℕ → Bool
question_listed es a sense e r = stands es a && (stands es e && (is_some (right_at r) && nat_lt sense 2))

abbrev pub question_reasons : List Entity → ℕ → ℕ → ℕ → ℕ → List Reason
question_reasons es a sense e r =
    (not (question_listed es a sense e r), code NotListed)
    ∷ (not (fits is_account es a), code WrongKind)
    ∷ []

-- the right that a question asks for, or why it is refused
abbrev pub judged_question : List Entity → ℕ → ℕ → ℕ → ℕ → Result Right Code
judged_question es a sense e r = judged (question_reasons es a sense e r) (unwrap_or (right_at r) Select)

-- the first k steps are a run from S, and step k is not allowed after them
pub record Stops (L : Lists) (S : State) (steps : List Step) (k : ℕ) : Type 0 where
  pub reached : State
  pub run : Run L S (take k steps) reached
  pub step : Step
  pub there : slice_get steps k ≡ Some step
  pub refused : Allowed L reached step → ⊥

-- the right stands in a state: for use some account acted as holds it, for hold the opener
abbrev pub HeldBy : Lists → State → ℕ → ℕ → ℕ → Right → Type 0
HeldBy L S a zero e r = (v : ℕ) × (v ∈ S.acted) × Holds L S v e r
HeldBy L S a (suc sense) e r = Holds L S a e r

-- the steps are a run that ends with the right: sense 0 is use, sense 1 hold
abbrev pub Comes : Lists → ℕ → ℕ → List Step → ℕ → Right → Type 0
Comes L a zero steps e r = UseBy L a steps e r
Comes L a (suc sense) steps e r = HoldBy L a steps e r

-- how the steps end: with one that is not allowed, without the right, or with it
pub data Ends (L : Lists) (a sense e : ℕ) (right : Right) (steps : List Step) {X : Type 0} : Result X Code → Type 0 where
  stopped : {k : ℕ} → Stops L (start L a) steps k → Ends L a sense e right steps (Err (code (NotAllowed k)))
  missing : {T : State} → Run L (start L a) steps T → (Comes L a sense steps e right → ⊥)
      → Ends L a sense e right steps (Err (code (NotAllowed (length steps))))
  accepted : {x : X} → Comes L a sense steps e right → Ends L a sense e right steps (Ok x)

-- what a replay returns
pub data Replays (L : Lists) (a sense e r : ℕ) (steps : List Step) {X : Type 0} : Result X Code → Type 0 where
  declined : {c : Code} → judged_question L.entities a sense e r ≡ Err c → Replays L a sense e r steps (Err c)
  too_many : {right : Right} → judged_question L.entities a sense e r ≡ Ok right → 4096 < length steps
      → Replays L a sense e r steps (Err (code NoRoom))
  asked : {right : Right} {o : Result X Code} → judged_question L.entities a sense e r ≡ Ok right → length steps ≤ 4096
      → Ends L a sense e right steps o → Replays L a sense e r steps o
