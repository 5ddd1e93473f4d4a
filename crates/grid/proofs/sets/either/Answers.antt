use Rattle.access.proofs.BitLaws.{bit_or_lem}
use Rattle.grid.proofs.sets.either.Goals as goal

pub returns : goal.returns
returns c v = bit_or_lem c.args.first c.args.second v
