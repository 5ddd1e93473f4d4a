use Rattle.std.proofs.Common.{ℕ, ◌<◌, true}
use Rattle.access.specs.declared.rights.Right.{Right}
use Rattle.access.specs.Lists.{public}
use Rattle.runs.specs.declared.steps.Step.TheVariants.{Grant}
use Rattle.runs.specs.Rights.{right_record}
use Rattle.session.specs.Reached.{state_of}
use Rattle.saturation.specs.Progress.{Grown, Adds}
use Rattle.saturation.proofs.stepping.grants.Given as goal

-- what the rights on the entities before this one add is there
abbrev pub invariant-loop-entity : goal.invariant-loop-entity
invariant-loop-entity l = record {
  grown : Grown l.actor.lists l.initial.state l.state;
  added : (d : ℕ) → d < l.entity → (r : Right) → Adds l.actor (state_of l.actor.lists l.initial.state) (state_of l.actor.lists l.state) (Grant l.account (right_record public d r true));
}
