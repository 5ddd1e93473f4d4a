use Rattle.std.proofs.Common.{◌≡◌, ℕ, ◌<◌, length}
use Rattle.session.specs.Models.{lists_of}
use Rattle.session.specs.Reached.{state_of}
use Rattle.saturation.specs.Kept.{Keeps}
use Rattle.saturation.specs.Progress.{steps_of, Grown, Began}
use Rattle.saturation.proofs.sweeping.turns.Given as goal

-- if no step came, the accounts before a add nothing
abbrev pub invariant-loop-a : goal.invariant-loop-a
invariant-loop-a l = record {
  grown : Grown (lists_of l.model) l.initial.state l.state;
  keeps : Keeps (lists_of l.model) (state_of (lists_of l.model) l.state) l.kept;
  quiet : length (steps_of l.state) ≡ length (steps_of l.initial.state) → (b : ℕ) → b < l.a
      → Began (lists_of l.model) (state_of (lists_of l.model) l.state) (state_of (lists_of l.model) l.state) b;
}
