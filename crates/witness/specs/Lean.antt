-- Lists of which no step can be left out, and how they get shorter.
use Rattle.std.specs.Prelude.{◌≡◌, ℕ, ◌+◌, ◌<◌, ◌≤◌, List, length}
use Rattle.access.specs.declared.rights.Right.{Right}
use Rattle.access.specs.Lists.{Lists}
use Rattle.runs.specs.declared.steps.Step.{Step}
use Rattle.replay.specs.declared.questions.Question.{Question}
use Rattle.replay.specs.Questions.{sense_number}
use Rattle.replay.specs.Replays.{Comes}
use Rattle.witness.specs.Plays.{left_out}

-- without any one of the steps, the others are no run that ends with the right
abbrev pub Lean : Lists → ℕ → ℕ → ℕ → Right → List Step → Type 0
Lean L a sense e right steps = (i : ℕ) → i < length steps → Comes L a sense (left_out i 1 steps) e right → ⊥

-- the steps are a run that ends with what a question asks
abbrev pub ComesTo : Lists → Question → List Step → Type 0
ComesTo L q steps = Comes L q.account (sense_number q.sense) steps q.entity q.right

-- without any one of them, the others are none
abbrev pub LeanTo : Lists → Question → List Step → Type 0
LeanTo L q steps = Lean L q.account (sense_number q.sense) q.entity q.right steps

-- the new list comes to the right with n steps less at least, and no fewer than i
pub record Shorter (L : Lists) (q : Question) (i n : ℕ) (old new : List Step) : Type 0 where
  pub comes : ComesTo L q new
  pub begins : i ≤ length new
  pub length : length new + n ≤ length old

-- the old list does not come to it without n steps from the i-th on, and stays
pub record Needed (L : Lists) (q : Question) (i n : ℕ) (old new : List Step) : Type 0 where
  pub missed : ComesTo L q (left_out i n old) → ⊥
  pub same : new ≡ old

-- the steps come to what is asked, each is missed, and they are at most 4,096
pub record Found (L : Lists) (q : Question) (steps : List Step) : Type 0 where
  pub comes : ComesTo L q steps
  pub lean : LeanTo L q steps
  pub few : length steps ≤ 4096
