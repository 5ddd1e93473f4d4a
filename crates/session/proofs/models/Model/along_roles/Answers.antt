use Rattle.order.specs.Rows.{leq}
use Rattle.session.proofs.Carrying.{carried_as}
use Rattle.session.proofs.Readiness.{ready}
use Rattle.session.proofs.models.Model.along_roles.Goals as goal

pub returns-clause-tells : goal.returns-clause-tells
returns-clause-tells c x k h =
    carried_as (leq c.args.self.now.roles.relation.rows) _ (ready c.args.self.now).roles _ _ x k _ (c.spread.ensures.tells x k h)
