use Rattle.order.specs.Rows.{leq}
use Rattle.session.proofs.Carrying.{carried_as}
use Rattle.session.proofs.Readiness.{ready}
use Rattle.session.proofs.models.Model.along_places.Goals as goal

pub returns : goal.returns
returns c x k h = carried_as (leq c.args.self.now.places.relation.rows) _ (ready c.args.self.now).places _ _ x k _ (c.spread.ensures.tells x k h)
