use Rattle.std.proofs.Common.{ℕ, ◌<◌, take}
use Rattle.access.specs.declared.code.Object.{Object}
use Rattle.access.specs.Lists.{◌∈◌, Lists}
use Rattle.runs.specs.States.{pair}
use Rattle.session.specs.Reached.{state_of}
use Rattle.saturation.specs.Progress.{Goes}
use Rattle.saturation.proofs.footholds.entry_at.Given as goal

-- nobody entered the objects before this one
abbrev pub invariant-loop-object : goal.invariant-loop-object
invariant-loop-object l =
    (L : Lists) → Goes L l.state → (x : Object) → x ∈ take l.object-index l.object-items → (u : ℕ) → u < 96 → pair x u ∈ (state_of L l.state).entered → ⊥
