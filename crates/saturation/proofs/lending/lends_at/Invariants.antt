use Rattle.std.proofs.Common.{ℕ, ◌<◌, take}
use Rattle.access.specs.declared.code.Object.{Object}
use Rattle.access.specs.Lists.{◌∈◌}
use Rattle.runs.specs.declared.steps.Entry.{Entry}
use Rattle.runs.specs.States.{pair}
use Rattle.session.specs.Reached.{state_of}
use Rattle.saturation.specs.Progress.{Grown, Lent, Foothold}
use Rattle.saturation.proofs.lending.lends_at.Given as goal

-- the objects before this one are entered
abbrev pub invariant-loop-object : goal.invariant-loop-object
invariant-loop-object l = record {
  grown : Grown l.actor.lists l.initial.state l.state;
  lent : (x : Object) → x ∈ take l.object-index l.object-items → (n : Entry) (u : ℕ) → Foothold l.actor (state_of l.actor.lists l.initial.state) x n → u < 96
      → u ∈ (state_of l.actor.lists l.initial.state).acted → Lent l.actor (state_of l.actor.lists l.state) (pair x u);
}
