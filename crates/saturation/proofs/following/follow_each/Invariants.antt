use Rattle.std.proofs.Common.{ℕ, take}
use Rattle.access.specs.declared.code.Line.{Line}
use Rattle.access.specs.Lists.{◌∈◌}
use Rattle.runs.specs.declared.steps.Step.TheVariants.{Follow}
use Rattle.session.specs.Models.{lists_of}
use Rattle.session.specs.Reached.{state_of}
use Rattle.saturation.specs.Kept.{Keeps}
use Rattle.saturation.specs.Progress.{Grown, Done}
use Rattle.saturation.proofs.following.follow_each.Given as goal

-- the lines before this one were followed
abbrev pub invariant-loop-line : goal.invariant-loop-line
invariant-loop-line l =
    let L = lists_of l.model in
    record {
      grown : Grown L l.initial.state l.state;
      keeps : Keeps L (state_of L l.state) l.kept;
      done : (k : Line) → k ∈ take l.line-index l.line-items → (v : ℕ) → Done L (state_of L l.initial.state) (state_of L l.state) (Follow v k);
    }
