use Rattle.order.proofs.SetRows.{told_clear}
use Rattle.order.proofs.rows.Row.empty.Goals as goal

pub returns : goal.returns
returns c x k = told_clear 96 c.empty.result x k (c.empty.ensures k)
