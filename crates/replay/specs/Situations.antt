-- What a run has come to over a loaded catalogue.
use Rattle.access.specs.Lists.{Lists}
use Rattle.runs.specs.States.{State}
use Rattle.session.specs.Reached.{state_of}
use Rattle.session.specs.declared.states.RunState.{RunState}

-- the lists of the catalogue, and what came in the run
pub record Situation : Type 0 where
  pub lists : Lists
  pub came : RunState

abbrev pub state_in : Situation → State
state_in s = state_of s.lists s.came
