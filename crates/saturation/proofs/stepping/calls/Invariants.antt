use Rattle.std.proofs.Common.{◌≡◌, ℕ, ◌<◌}
use Rattle.access.specs.declared.code.Object.{Object}
use Rattle.access.specs.Places.{place_of}
use Rattle.runs.specs.declared.steps.Step.TheVariants.{Call}
use Rattle.session.specs.Reached.{state_of}
use Rattle.saturation.specs.Progress.{Grown, Adds}
use Rattle.saturation.proofs.stepping.calls.Given as goal

-- what the objects of the entities before this one add is there
abbrev pub invariant-loop-entity : goal.invariant-loop-entity
invariant-loop-entity l = record {
  grown : Grown l.actor.lists l.initial.state l.state;
  added : (d : ℕ) → d < l.entity → (x : Object) → place_of x ≡ d → Adds l.actor (state_of l.actor.lists l.initial.state) (state_of l.actor.lists l.state) (Call l.account x);
}
