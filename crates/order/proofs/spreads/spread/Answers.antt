use Rattle.order.proofs.SpreadLaws.{carried_none}
use Rattle.order.proofs.spreads.spread.Goals as goal

pub returns-then-places-eq0-clause-tells : goal.returns-then-places-eq0-clause-tells
returns-then-places-eq0-clause-tells g c x k h =
    carried_none _ _ 96 x k c.places-places.result _ c.places-places.ensures c.if-places-eq0.true (c.empty-row.ensures x k)
