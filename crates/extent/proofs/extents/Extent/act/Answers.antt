use Rattle.std.proofs.Common.{◌||◌, ap, ◌∙◌}
use Rattle.access.specs.Bits.{bit}
use Rattle.extent.proofs.Acting.{act_came}
use Rattle.extent.proofs.extents.Extent.act.Goals as goal

pub returns-clause-came : goal.returns-clause-came
returns-clause-came c L s m i r =
    act_came s m c.args.account c.requires.new i r c.either-self.result
    (λ y. c.either-self.ensures y ∙ ap (λ b. bit c.args.self.now.acted y || b) (c.bit_of.ensures y))
