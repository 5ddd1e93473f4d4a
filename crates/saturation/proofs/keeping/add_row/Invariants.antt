use Rattle.std.proofs.Common.{◌≡◌, ℕ, ltb, ◌&&◌, ◌||◌}
use Rattle.access.specs.Sets.{told}
use Rattle.saturation.proofs.keeping.add_row.Given as goal

-- the entities before this one are done
abbrev pub invariant-loop-e : goal.invariant-loop-e
invariant-loop-e l = (x k : ℕ) → told l.row.sets x k ≡ (told l.initial.row.sets x k || (ltb x l.e && told l.more.sets x k))
