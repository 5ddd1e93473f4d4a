use Rattle.std.proofs.Common.{◌≡◌, ◌-◌, length}
use Rattle.session.specs.Models.{lists_of}
use Rattle.session.specs.Reached.{state_of}
use Rattle.saturation.specs.Kept.{Keeps}
use Rattle.saturation.specs.Progress.{steps_of, Goes}
use Rattle.saturation.proofs.sweeping.saturate.Given as goal

abbrev pub invariant-loop-kept : goal.invariant-loop-kept
invariant-loop-kept l = record {
  goes : Goes (lists_of l.model) l.state;
  opener : l.state.opener ≡ l.account;
  keeps : Keeps (lists_of l.model) (state_of (lists_of l.model) l.state) l.kept;
}

-- the steps that there is still room for
abbrev pub decreases-loop-kept : goal.decreases-loop-kept
decreases-loop-kept l = 4096 - length (steps_of l.state)
