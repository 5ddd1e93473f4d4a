use Rattle.std.proofs.Common.{arith}
use Rattle.std.proofs.lemmas.Bool.Decides.{nat_tests}
use Rattle.extent.proofs.Giving.{give_came}
use Rattle.extent.proofs.extents.Extent.give.Goals as goal

pub returns-clause-came : goal.returns-clause-came
returns-clause-came c L r s t m n stands rule =
    give_came s t m c.args.entity c.args.k r n c.requires.small.0 c.requires.new stands rule c.add.new.self.rows c.add-2.new.self.rows c.add-3.new.self.rows
    (λ z y. grind (arith, nat_tests, c.add.ensures z y, c.bit_of.ensures y))
    (λ z y. grind (arith, nat_tests, c.add-2.ensures z y, c.row.ensures y))
    (λ z y. grind (arith, nat_tests, c.add-3.ensures z y, c.bit_of-2.ensures y))
