use Rattle.std.proofs.Common.{◌≡◌, ℕ, ◌<◌}
use Rattle.access.specs.declared.code.Object.{Object}
use Rattle.access.specs.Lists.{◌∈◌}
use Rattle.access.specs.Places.{place_of}
use Rattle.runs.specs.declared.steps.Entry.{Entry}
use Rattle.runs.specs.States.{pair}
use Rattle.session.specs.Reached.{state_of}
use Rattle.saturation.specs.Progress.{Grown, Lent, Foothold}
use Rattle.saturation.proofs.lending.lends.Given as goal

-- the objects of the entities before e are entered
abbrev pub invariant-loop-e : goal.invariant-loop-e
invariant-loop-e l = record {
  grown : Grown l.actor.lists l.initial.state l.state;
  lent : (d : ℕ) → d < l.e → (x : Object) (n : Entry) (u : ℕ) → place_of x ≡ d → Foothold l.actor (state_of l.actor.lists l.initial.state) x n → u < 96
      → u ∈ (state_of l.actor.lists l.initial.state).acted → Lent l.actor (state_of l.actor.lists l.state) (pair x u);
}
