use Rattle.extent.proofs.Planted.{meets}
use Rattle.extent.proofs.planting.meet.Goals as goal

pub returns : goal.returns
returns c = meets c.both.result c.args.first c.args.second c.both.type_inv c.both.ensures
