use Rattle.std.proofs.Common.{◌≡◌, ℕ, ◌<◌}
use Rattle.access.specs.Lists.{◌∈◌}
use Rattle.access.specs.Places.{place_of}
use Rattle.runs.specs.declared.steps.Entry.{Entry}
use Rattle.session.specs.Reached.{state_of}
use Rattle.saturation.specs.Progress.{Grown, Taken}
use Rattle.saturation.proofs.taking.takes.Given as goal

-- who entered objects of the entities before e is taken over
abbrev pub invariant-loop-e : goal.invariant-loop-e
invariant-loop-e l = record {
  grown : Grown l.actor.lists l.initial.state l.state;
  taken : (d : ℕ) → d < l.e → (n : Entry) → n ∈ (state_of l.actor.lists l.initial.state).entered → place_of n.object ≡ d → Taken l.actor (state_of l.actor.lists l.state) n;
}
