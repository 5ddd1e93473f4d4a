use Rattle.session.specs.Models.{lists_of}
use Rattle.session.specs.Reached.{state_of}
use Rattle.saturation.specs.Kept.{Keeps}
use Rattle.saturation.specs.Progress.{Grown}
use Rattle.saturation.proofs.following.follow_back.Given as goal

abbrev pub invariant-loop-i : goal.invariant-loop-i
invariant-loop-i l = record {
  grown : Grown (lists_of l.model) l.initial.state l.state;
  keeps : Keeps (lists_of l.model) (state_of (lists_of l.model) l.state) l.kept;
}
