-- The state that a run has come to.
use Rattle.std.specs.Prelude.{ℕ, ◌+◌, ◌≤◌, List, [], vec_items, vec_len}
use mathlib.Core.List.{reverse_aux}
use Rattle.access.specs.Lists.{Lists}
use Rattle.runs.specs.States.{State}
use Rattle.session.specs.declared.states.RunState.{RunState}

-- the elements of a list put one after the other before those of another
abbrev pub before : {A : Type 0} → List A → List A → List A
before xs ys = reverse_aux xs ys

-- what came in a run over the catalogue, the latest first
abbrev pub state_of : Lists → RunState → State
state_of L s = record {
  acted = before (vec_items s.acted) [];
  rights = before (vec_items s.grants) L.rights;
  members = before (vec_items s.joins) L.members;
  planted = before (vec_items s.planted) [];
  entered = before (vec_items s.entered) [];
}

-- no more than the opener and what n steps add
pub record Kept (s : RunState) (n : ℕ) : Type 0 where
  pub acted : vec_len s.acted ≤ n + 1
  pub grants : vec_len s.grants ≤ n
  pub joins : vec_len s.joins ≤ n
  pub planted : vec_len s.planted ≤ n
  pub entered : vec_len s.entered ≤ n

-- the same, and no more than n steps
pub record Filled (s : RunState) (n : ℕ) : Type 0 where
  pub kept : Kept s n
  pub steps : vec_len s.steps ≤ n
