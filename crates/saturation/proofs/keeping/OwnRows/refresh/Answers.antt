use Rattle.std.proofs.Common.{arith}
use Rattle.saturation.proofs.Onwards.{own_on, own_none}
use Rattle.saturation.proofs.keeping.OwnRows.refresh.Goals as goal

pub returns-then-self-joins : goal.returns-then-self-joins
returns-then-self-joins c L h = own_none L c.args.state.now 96 c.len-joins.result (omega (arith, c.len-joins.ensures))

pub returns-else-self-joins : goal.returns-else-self-joins
returns-else-self-joins c L h = own_on L c.args.state.now c.args.self.now h (omega (arith, c.len-joins.ensures, c.if-self-joins.false))
