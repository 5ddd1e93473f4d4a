use Rattle.std.proofs.Common.{take}
use Rattle.access.specs.declared.code.Object.{Object}
use Rattle.access.specs.Lists.{◌∈◌}
use Rattle.runs.specs.declared.steps.Step.TheVariants.{Call}
use Rattle.session.specs.Reached.{state_of}
use Rattle.saturation.specs.Progress.{Grown, Adds}
use Rattle.saturation.proofs.stepping.calls_at.Given as goal

-- what the objects before this one add is there
abbrev pub invariant-loop-object : goal.invariant-loop-object
invariant-loop-object l = record {
  grown : Grown l.actor.lists l.initial.state l.state;
  added : (x : Object) → x ∈ take l.object-index l.object-items → Adds l.actor (state_of l.actor.lists l.initial.state) (state_of l.actor.lists l.state) (Call l.account x);
}
