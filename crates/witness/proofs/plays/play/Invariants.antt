use Rattle.std.proofs.Common.{ℕ, ◌+◌, take}
use Rattle.session.specs.Reached.{Filled}
use Rattle.witness.specs.Plays.{Played}
use Rattle.witness.proofs.plays.play.Given as goal

-- the steps before this one are played
abbrev pub invariant-loop-step : goal.invariant-loop-step
invariant-loop-step l = record {
  played : Played l.initial.course (take l.step-index l.steps) l.course;
  few : (n : ℕ) → Filled l.initial.course.came n → Filled l.course.came (n + l.step-index);
}
