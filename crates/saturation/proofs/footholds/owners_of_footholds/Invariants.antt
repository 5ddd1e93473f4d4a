use Rattle.std.proofs.Common.{◌≡◌, ℕ, ◌<◌}
use Rattle.access.specs.declared.code.Object.{Object}
use Rattle.access.specs.Places.{place_of}
use Rattle.runs.specs.declared.steps.Entry.{Entry}
use Rattle.session.specs.Reached.{state_of}
use Rattle.saturation.specs.Among.{HasOwner}
use Rattle.saturation.specs.Progress.{Foothold}
use Rattle.saturation.proofs.footholds.owners_of_footholds.Given as goal

-- the owners of the entities before e are in the set
abbrev pub invariant-loop-e : goal.invariant-loop-e
invariant-loop-e l =
    (d : ℕ) → d < l.e → (x : Object) (n : Entry) → place_of n.object ≡ d → Foothold l.actor (state_of l.actor.lists l.state) x n
    → HasOwner l.actor.lists l.owners (place_of x)
