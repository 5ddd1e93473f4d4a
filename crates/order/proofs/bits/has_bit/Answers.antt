use Rattle.std.proofs.Common.{sym, ◌∙◌}
use Rattle.std.proofs.lemmas.Bool.{le-ltb}
use Rattle.access.proofs.SetLaws.{bit_past}
use Rattle.access.proofs.BitLaws.{bit_test}
use Rattle.order.proofs.bits.has_bit.Goals as goal

pub returns-then-y-lt128 : goal.returns-then-y-lt128
returns-then-y-lt128 c = bit_test c.args.bits c.args.y

pub returns-else-y-lt128 : goal.returns-else-y-lt128
returns-else-y-lt128 c =
    le-ltb c.args.y 128 c.if-y-lt128.false ∙ sym (bit_past c.args.bits 128 c.args.y c.ranges.bits.fits c.if-y-lt128.false)
