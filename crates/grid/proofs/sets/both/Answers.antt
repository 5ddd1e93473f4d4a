use Rattle.order.proofs.SpreadLaws.{bit_both}
use Rattle.grid.proofs.sets.both.Goals as goal

pub returns : goal.returns
returns c v = bit_both c.args.first c.args.second v
