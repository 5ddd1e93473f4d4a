use Rattle.access.specs.Lists.{◌∈◌}
use Rattle.runs.specs.States.{pair}
use Rattle.session.specs.Reached.{state_of}
use Rattle.saturation.specs.Progress.{Grown, Lent}
use Rattle.grid.proofs.Bitwise.{Left}
use Rattle.saturation.proofs.lending.lends_each.Given as goal

-- who is acted as is left or has entered the object
abbrev pub invariant-loop-u : goal.invariant-loop-u
invariant-loop-u l = record {
  grown : Grown l.actor.lists l.initial.state l.state;
  lent : Left (λ v. v ∈ (state_of l.actor.lists l.initial.state).acted) (λ v. Lent l.actor (state_of l.actor.lists l.state) (pair l.object v)) l.u-iterator.0;
}
