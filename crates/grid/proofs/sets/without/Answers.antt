use Rattle.std.proofs.Common.{arith}
use Rattle.grid.proofs.Bitwise.{bit_without}
use Rattle.grid.proofs.sets.without.Goals as goal

pub returns : goal.returns
returns c v = bit_without c.args.set c.args.other v (omega arith) (omega arith)
