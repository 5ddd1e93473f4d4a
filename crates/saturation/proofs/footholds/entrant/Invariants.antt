use Rattle.access.specs.Lists.{◌∈◌, Lists}
use Rattle.runs.specs.States.{pair}
use Rattle.session.specs.Reached.{state_of}
use Rattle.saturation.specs.Progress.{Goes}
use Rattle.grid.proofs.Bitwise.{Left}
use Rattle.saturation.proofs.footholds.entrant.Given as goal

-- each number is left, or no account that entered the object
abbrev pub invariant-loop-v : goal.invariant-loop-v
invariant-loop-v l = Left (λ u. Unit {0}) (λ u. (L : Lists) → Goes L l.state → pair l.object u ∈ (state_of L l.state).entered → ⊥) l.v-iterator.0
