use Rattle.access.proofs.BitLaws.{bit_shl}
use Rattle.order.proofs.bits.bit_of.Goals as goal

pub returns : goal.returns
returns c y = bit_shl 128 c.args.x y c.requires
