use Rattle.std.proofs.Common.{arith, rules}
use Rattle.order.proofs.TakenLaws.{takes, less}
use Rattle.order.proofs.bits.BitsIterator.next.Goals as goal

pub returns-clause-steps : goal.returns-clause-steps
returns-clause-steps c = takes c.args.self.now.0 (omega arith) (omega arith)

pub returns-clause-goes : goal.returns-clause-goes
returns-clause-goes c = let l = less c.args.self.now.0 (omega arith) (omega arith) in search rules
