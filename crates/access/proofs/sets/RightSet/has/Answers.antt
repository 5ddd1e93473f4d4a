use Rattle.std.proofs.Common.{ap, ◌∙◌}
use Rattle.access.specs.Bits.{bit}
use Rattle.access.proofs.BitLaws.{bit_test}
use Rattle.access.proofs.sets.RightSet.has.Goals as goal

pub returns : goal.returns
returns c = bit_test c.args.self.bits c.from.result ∙ ap (bit c.args.self.bits) c.from.ensures.0
