use Rattle.std.proofs.Common.{◌-◌, length}
use Rattle.session.specs.Models.{lists_of}
use Rattle.session.specs.Reached.{state_of}
use Rattle.saturation.specs.Kept.{Keeps}
use Rattle.saturation.specs.Progress.{steps_of, Grown}
use Rattle.saturation.proofs.following.follow_all.Given as goal

abbrev pub invariant-loop-before : goal.invariant-loop-before
invariant-loop-before l = record {
  grown : Grown (lists_of l.model) l.initial.state l.state;
  keeps : Keeps (lists_of l.model) (state_of (lists_of l.model) l.state) l.kept;
}

-- the steps that there is still room for
abbrev pub decreases-loop-before : goal.decreases-loop-before
decreases-loop-before l = 4096 - length (steps_of l.state)
