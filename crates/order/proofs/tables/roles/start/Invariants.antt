use Rattle.std.proofs.Common.{◌≡◌, ℕ, ◌&&◌, ltb}
use Rattle.access.specs.Bits.{bit}
use Rattle.access.specs.Lists.{fits, is_role}
use Rattle.access.specs.Orders.{unlinked}
use Rattle.order.specs.Rows.{leq}
use Rattle.order.proofs.tables.roles.start.Given as goal

-- the entities before x are done
abbrev pub invariant-loop-x : goal.invariant-loop-x
invariant-loop-x l = record {
  elements : (k : ℕ) → bit l.relation.elements k ≡ (ltb k l.x && fits is_role l.entities k);
  table : (k y : ℕ) → leq l.relation.rows k y ≡ (ltb k l.x && unlinked l.entities k y);
}
