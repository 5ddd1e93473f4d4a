use Rattle.std.proofs.Common.{◌≡◌, ℕ, ◌&&◌, ltb}
use Rattle.std.specs.List.{slice_get}
use Rattle.access.specs.Bits.{bit}
use Rattle.holdings.specs.Giving.{is_kind}
use Rattle.holdings.proofs.kinds.of_kind.Given as goal

-- the entities before x are done
abbrev pub invariant-loop-x : goal.invariant-loop-x
invariant-loop-x l = (k : ℕ) → bit l.bits k ≡ (ltb k l.x && is_kind l.kind (slice_get l.entities k))
