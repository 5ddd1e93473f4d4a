use Rattle.std.proofs.Common.{◌≡◌, ◌≤◌, length, take}
use Rattle.session.proofs.lists.StepList.copy.Given as goal

-- the steps before this one are copied
abbrev pub invariant-loop-step : goal.invariant-loop-step
invariant-loop-step l = record {
  few : length l.steps ≤ 4096;
  copied : l.self.items.items ≡ take l.step-index l.steps;
}
