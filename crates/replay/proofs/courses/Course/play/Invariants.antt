use Rattle.std.proofs.Common.{◌≡◌, take}
use Rattle.runs.specs.Runs.{Run}
use Rattle.session.specs.Reached.{Filled}
use Rattle.replay.specs.Situations.{state_in}
use Rattle.replay.proofs.courses.Course.play.Given as goal

-- the steps before i are a run to the state
abbrev pub invariant-loop-i : goal.invariant-loop-i
invariant-loop-i l = record {
  lists : l.self.lists ≡ l.initial.self.lists;
  run : Run l.initial.self.lists (state_in l.initial.self) (take l.i l.steps) (state_in l.self);
  filled : Filled l.self.came l.i;
}
