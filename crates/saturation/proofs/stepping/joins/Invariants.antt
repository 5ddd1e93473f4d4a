use Rattle.std.proofs.Common.{ℕ, ◌<◌}
use Rattle.runs.specs.declared.steps.Step.TheVariants.{Join}
use Rattle.runs.specs.Rights.{member_record}
use Rattle.session.specs.Reached.{state_of}
use Rattle.saturation.specs.Progress.{Grown, Adds}
use Rattle.saturation.proofs.stepping.joins.Given as goal

-- what the roles before this one add is there
abbrev pub invariant-loop-role : goal.invariant-loop-role
invariant-loop-role l = record {
  grown : Grown l.actor.lists l.initial.state l.state;
  added : (p : ℕ) → p < l.role → (v : ℕ) → v < 96 → Adds l.actor (state_of l.actor.lists l.initial.state) (state_of l.actor.lists l.state) (Join l.account (member_record v p));
}
