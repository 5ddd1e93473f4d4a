use Rattle.std.proofs.Common.{◌||◌, ap, ◌∙◌}
use Rattle.access.specs.Bits.{bit}
use Rattle.access.proofs.BitLaws.{bit_or_lem, bit_shl}
use Rattle.saturation.proofs.numbers.with.Goals as goal

pub returns-then-x-lt128 : goal.returns-then-x-lt128
returns-then-x-lt128 c v h = bit_or_lem c.args.bits _ v ∙ ap (λ b. bit c.args.bits v || b) (bit_shl 128 c.args.x v c.if-x-lt128.true)
