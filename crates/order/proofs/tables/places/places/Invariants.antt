use Rattle.std.proofs.Common.{◌≡◌, ℕ, ◌<◌, ltb, Decides}
use Rattle.access.specs.Bits.{bit}
use Rattle.access.specs.Orders.{Within}
use Rattle.order.specs.Rows.{leq}
use Rattle.order.proofs.tables.places.places.Given as goal

-- the entities before x are done
abbrev pub invariant-loop-x : goal.invariant-loop-x
invariant-loop-x l = record {
  elements : (k : ℕ) → bit l.relation.elements k ≡ ltb k l.x;
  exact : (k y : ℕ) → Decides (leq l.relation.rows k y) ((k < l.x) × Within l.entities k y);
}
