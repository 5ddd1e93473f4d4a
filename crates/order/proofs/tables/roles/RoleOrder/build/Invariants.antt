use Rattle.std.proofs.Common.{◌≡◌, ℕ, drop}
use Rattle.access.specs.Bits.{bit}
use Rattle.access.specs.Lists.{fits, is_role}
use Rattle.access.specs.Orders.{joined_by, role_below}
use Rattle.order.specs.Rows.{leq}
use Rattle.order.proofs.tables.roles.RoleOrder.build.Given as goal

-- with the links that are left the rows make the whole order
abbrev pub invariant-loop-link : goal.invariant-loop-link
invariant-loop-link l = record {
  elements : (x : ℕ) → bit l.relation.elements x ≡ fits is_role l.entities x;
  table : (x y : ℕ) → joined_by (leq l.relation.rows) (drop l.link-index l.links) x y ≡ role_below l.entities l.links x y;
}
