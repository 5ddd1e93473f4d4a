use Rattle.std.proofs.Common.{◌<◌}
use Rattle.access.specs.declared.entities.Kind.TheVariants.{Account}
use Rattle.runs.specs.declared.steps.Step.TheVariants.{Join}
use Rattle.runs.specs.Rights.{member_record}
use Rattle.runs.specs.Standing.{Is}
use Rattle.session.specs.Reached.{state_of}
use Rattle.saturation.specs.Progress.{Grown, Adds}
use Rattle.grid.proofs.Bitwise.{Left}
use Rattle.saturation.proofs.stepping.joins_each.Given as goal

-- each number is left, or what it adds is there
abbrev pub invariant-loop-v : goal.invariant-loop-v
invariant-loop-v l = record {
  grown : Grown l.actor.lists l.initial.state l.state;
  added : Left (λ u. (u < 96) × Is l.actor.lists Account u) (λ u. Adds l.actor (state_of l.actor.lists l.initial.state) (state_of l.actor.lists l.state) (Join l.account (member_record u l.role))) l.v-iterator.0;
}
