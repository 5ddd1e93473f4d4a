use Rattle.access.specs.Lists.{◌∈◌}
use Rattle.runs.specs.States.{pair}
use Rattle.session.specs.Reached.{state_of}
use Rattle.saturation.specs.Progress.{Grown, Taken}
use Rattle.grid.proofs.Bitwise.{Left}
use Rattle.saturation.proofs.taking.takes_from.Given as goal

-- who entered the object is left or taken over
abbrev pub invariant-loop-v : goal.invariant-loop-v
invariant-loop-v l = record {
  grown : Grown l.actor.lists l.initial.state l.state;
  taken : Left (λ u. pair l.object u ∈ (state_of l.actor.lists l.initial.state).entered) (λ u. Taken l.actor (state_of l.actor.lists l.state) (pair l.object u)) l.v-iterator.0;
}
