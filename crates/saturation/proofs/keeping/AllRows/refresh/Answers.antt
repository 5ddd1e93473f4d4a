use Rattle.std.proofs.Common.{arith}
use Rattle.saturation.proofs.Onwards.{all_on, all_none}
use Rattle.saturation.proofs.keeping.AllRows.refresh.Goals as goal

pub returns-then-self-grants : goal.returns-then-self-grants
returns-then-self-grants c L h =
    all_none L c.args.state.now 96 c.len-grants.result c.len-joins.result (omega (arith, c.len-grants.ensures)) (omega (arith, c.len-joins.ensures))

pub returns-else-self-joins : goal.returns-else-self-joins
returns-else-self-joins c L h =
    all_on L c.args.state.now c.args.self.now h (omega (arith, c.len-grants.ensures, c.if-self-grants.false)) (omega (arith, c.len-joins.ensures, c.if-self-joins.false))
