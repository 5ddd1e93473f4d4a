use Rattle.access.specs.Lists.{◌∈◌}
use Rattle.runs.specs.declared.steps.Step.TheVariants.{Follow}
use Rattle.runs.specs.States.{pair}
use Rattle.session.specs.Models.{lists_of}
use Rattle.session.specs.Reached.{state_of}
use Rattle.saturation.specs.Kept.{Keeps}
use Rattle.saturation.specs.Progress.{Grown, Done}
use Rattle.grid.proofs.Bitwise.{Left}
use Rattle.saturation.proofs.following.follow_for_each.Given as goal

-- who entered the object is left, or the line was followed for it
abbrev pub invariant-loop-v : goal.invariant-loop-v
invariant-loop-v l =
    let L = lists_of l.model in
    record {
      grown : Grown L l.initial.state l.state;
      keeps : Keeps L (state_of L l.state) l.kept;
      done : Left (λ u. pair l.line.object u ∈ (state_of L l.initial.state).entered) (λ u. Done L (state_of L l.initial.state) (state_of L l.state) (Follow u l.line)) l.v-iterator.0;
    }
