use Rattle.std.proofs.Common.{◌≡◌, sym, ap, ◌∙◌, arith}
use Rattle.std.proofs.lemmas.Option.{slice_get-get_or, slice_get_past}
use Rattle.std.proofs.lemmas.Bool.Decides.{nat_tests}
use Rattle.access.specs.Bits.{bit}
use Rattle.access.specs.Lists.{fits, is_role, passes}
use Rattle.access.specs.Orders.{unlinked}
use Rattle.order.specs.Rows.{leq}
use Rattle.order.specs.declared.relations.Relation.{Relation}
use Rattle.order.proofs.RoleLaws.{role_same, role_alone, no_role}
use Rattle.order.proofs.RowLaws.{one_more, one_first, one_none}
use Rattle.order.proofs.tables.roles.start.Goals as goal
use Rattle.order.proofs.tables.roles.start.Goals.{then-eq, else-eq}

pub loop-x-preserved : goal.loop-x-preserved
loop-x-preserved c =
    let es = c.args.entities.now in
    let x = c.loop-x.x in
    let start = c.loop-x.invariant in
    let kind : fits is_role es x ≡ c.eq.result = ap (passes is_role) (slice_get-get_or es x _ c.loop-x-test.true) ∙ sym (role_same _) ∙ sym c.eq.ensures in
    elim c.if-eq.branch [
      | then-eq w ↦ record {
        elements = λ k. ap (λ (r : Relation). bit r.elements k) w.relation-is
            ∙ one_first k x _ _ _ (start.elements k) (w.put.ensures.elements k) (λ e. ap (fits is_role es) e ∙ kind ∙ w.if-eq.true);
        table = λ k y. ap (λ (r : Relation). leq r.rows k y) w.relation-is
            ∙ one_more k x (unlinked es k y) _ _ _ (start.table k y) (w.put.ensures.rows k y) (role_alone es k x y _ (kind ∙ w.if-eq.true) (w.bit_of.ensures y));
      }
      | else-eq w ↦ record {
        elements = λ k. ap (λ (r : Relation). bit r.elements k) w.relation-is ∙ one_none k x _ _ (start.elements k) (λ e. ap (fits is_role es) e ∙ kind ∙ w.if-eq.false);
        table = λ k y. ap (λ (r : Relation). leq r.rows k y) w.relation-is ∙ one_none k x _ _ (start.table k y) (λ e. no_role es k y (ap (fits is_role es) e ∙ kind ∙ w.if-eq.false));
      }
    ]

pub returns-clause-elements : goal.returns-clause-elements
returns-clause-elements c x = grind (arith, nat_tests, c.loop-x.invariant.elements x, slice_get_past c.args.entities.now x)

pub returns-clause-table : goal.returns-clause-table
returns-clause-table c x y = grind (arith, nat_tests, c.loop-x.invariant.table x y, slice_get_past c.args.entities.now x)
