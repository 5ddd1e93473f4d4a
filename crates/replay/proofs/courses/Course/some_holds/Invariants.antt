use Rattle.std.proofs.Common.{◌≡◌, ℕ, ◌<◌}
use Rattle.access.specs.Lists.{◌∈◌}
use Rattle.runs.specs.Rights.{Holds}
use Rattle.replay.specs.Situations.{state_in}
use Rattle.replay.proofs.courses.Course.some_holds.Given as goal

-- no account before v that is acted as holds the right
abbrev pub invariant-loop-v : goal.invariant-loop-v
invariant-loop-v l = record {
  same : l.self ≡ l.initial.self;
  none : (u : ℕ) → u < l.v → u ∈ (state_in l.self).acted → Holds l.self.lists (state_in l.self) u l.n l.right → ⊥;
}
