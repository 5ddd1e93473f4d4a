use Rattle.std.proofs.Common.{ℕ, sym, ap, ◌∙◌}
use Rattle.access.specs.Bits.{bit}
use Rattle.access.specs.Orders.{RoleBelow, unlinked}
use Rattle.order.specs.Rows.{leq}
use Rattle.order.proofs.RoleLaws.{joined_by_same, links_step, role_table, role_exact, role_antisymmetric}
use Rattle.order.proofs.RowLaws.{rows_transitive, rows_antisymmetric}
use Rattle.order.proofs.tables.roles.RoleOrder.build.Goals as goal

pub loop-link-init : goal.loop-link-init
loop-link-init c = record {
  elements = c.start-relation.ensures.elements;
  table = joined_by_same _ (unlinked c.args.entities.now) c.args.links.now c.start-relation.ensures.table;
}

pub loop-link-preserved : goal.loop-link-preserved
loop-link-preserved c = record {
  elements = λ x. ap (λ (b : ℕ). bit b x) c.join.ensures.elements ∙ c.loop-link.invariant.elements x;
  table = λ x y. links_step (leq c.loop-link.relation.rows) (leq c.join.new.self.rows) c.args.links.now c.loop-link.link-index _ c.loop-link-test.true c.join.ensures.rows x y
      ∙ c.loop-link.invariant.table x y;
}

pub invariant_of-result : goal.invariant_of-result
invariant_of-result c =
    let es = c.args.entities.now in
    let links = c.args.links.now in
    let rows = c.loop-link.relation.rows in
    let exact = role_exact es links (leq rows) _ c.loop-link-test.false c.loop-link.invariant.table c.requires.linked in
    record {
      reflexive = λ x h. (exact x x).1 (RoleBelow.itself (sym (c.loop-link.invariant.elements x) ∙ h));
      transitive = rows_transitive rows (RoleBelow es links) exact (λ x y z p q. RoleBelow.through p q);
      antisymmetric = rows_antisymmetric rows (RoleBelow es links) exact (role_antisymmetric es links c.requires.linked);
    }

pub returns-clause-table : goal.returns-clause-table
returns-clause-table c = role_table c.args.entities.now c.args.links.now _ _ c.loop-link-test.false c.loop-link.invariant.table

pub returns-clause-exact : goal.returns-clause-exact
returns-clause-exact c = role_exact c.args.entities.now c.args.links.now _ _ c.loop-link-test.false c.loop-link.invariant.table c.requires.linked
