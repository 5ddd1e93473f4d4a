-- The laws of replays.
use Rattle.std.specs.Prelude.{◌≡◌, ℕ, ◌≤◌, ◌↔◌, List, length, Ok, Result}
use Rattle.access.specs.declared.rights.Right.{Right}
use Rattle.access.specs.Codes.{Code}
use Rattle.access.specs.Lists.{Lists}
use Rattle.runs.specs.declared.steps.Step.{Step}
use Rattle.replay.specs.Replays.{judged_question, Comes, Replays}

-- the question and the steps leave one outcome
abbrev pub OneOutcome : Type 0
OneOutcome =
    (L : Lists) (a sense e r : ℕ) (steps : List Step) (x y : Result (Unit {0}) Code)
    → Replays L a sense e r steps x → Replays L a sense e r steps y → x ≡ y

-- a question that can be asked of at most 4,096 steps, which are a run that ends with the right
pub record Accepted (L : Lists) (a sense e r : ℕ) (steps : List Step) : Type 0 where
  pub right : Right
  pub question : judged_question L.entities a sense e r ≡ Ok right
  pub few : length steps ≤ 4096
  pub comes : Comes L a sense steps e right

-- a replay accepts exactly those
abbrev pub AcceptsRuns : Type 0
AcceptsRuns =
    (L : Lists) (a sense e r : ℕ) (steps : List Step) → Replays L a sense e r steps {X = Unit {0}} (Ok tt) ↔ Accepted L a sense e r steps
