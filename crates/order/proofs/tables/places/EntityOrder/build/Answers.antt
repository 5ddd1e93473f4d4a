use Rattle.std.proofs.Common.{sym, ◌∙◌}
use Rattle.access.specs.Orders.{Within}
use Rattle.order.proofs.RowLaws.{rows_transitive, rows_antisymmetric}
use Rattle.order.proofs.TreeLaws.{within_through, within_antisymmetric}
use Rattle.order.proofs.tables.places.EntityOrder.build.Goals as goal

pub invariant_of-result : goal.invariant_of-result
invariant_of-result c =
    let es = c.args.entities.now in
    let rows = c.places.result.rows in
    let exact = c.places.ensures.exact in
    record {
      reflexive = λ x h. (exact x x).1 (Within.itself (sym (c.places.ensures.elements x) ∙ h));
      transitive = rows_transitive rows (Within es) exact (λ x y z p q. within_through es p q);
      antisymmetric = rows_antisymmetric rows (Within es) exact (within_antisymmetric es c.requires.rooted);
    }
