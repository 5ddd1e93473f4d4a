use Rattle.std.proofs.Common.{ℕ, ◌<◌, take}
use Rattle.access.specs.declared.code.Object.{Object}
use Rattle.access.specs.Lists.{◌∈◌}
use Rattle.runs.specs.States.{pair}
use Rattle.session.specs.Reached.{state_of}
use Rattle.saturation.specs.Progress.{Grown, Taken}
use Rattle.saturation.proofs.taking.takes_at.Given as goal

-- who entered the objects before this one is taken over
abbrev pub invariant-loop-object : goal.invariant-loop-object
invariant-loop-object l = record {
  grown : Grown l.actor.lists l.initial.state l.state;
  taken : (x : Object) → x ∈ take l.object-index l.object-items → (v : ℕ) → v < 96 → pair x v ∈ (state_of l.actor.lists l.initial.state).entered
      → Taken l.actor (state_of l.actor.lists l.state) (pair x v);
}
