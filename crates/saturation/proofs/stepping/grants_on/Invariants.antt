use Rattle.std.proofs.Common.{true, take}
use Rattle.access.specs.declared.rights.Right.{Right}
use Rattle.access.specs.Lists.{◌∈◌, public}
use Rattle.runs.specs.declared.steps.Step.TheVariants.{Grant}
use Rattle.runs.specs.Rights.{right_record}
use Rattle.session.specs.Reached.{state_of}
use Rattle.saturation.specs.Progress.{Grown, Adds}
use Rattle.saturation.proofs.stepping.grants_on.Given as goal

-- what the rights before this one add is there
abbrev pub invariant-loop-right : goal.invariant-loop-right
invariant-loop-right l = record {
  grown : Grown l.actor.lists l.initial.state l.state;
  added : (r : Right) → r ∈ take l.right-index l.right-items → Adds l.actor (state_of l.actor.lists l.initial.state) (state_of l.actor.lists l.state) (Grant l.account (right_record public l.entity r true));
}
