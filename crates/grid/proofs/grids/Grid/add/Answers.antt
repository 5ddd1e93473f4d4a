use Rattle.std.proofs.Common.{◌<◌, length, get_or, arith}
use Rattle.std.proofs.lemmas.Bool.Decides.{nat_tests}
use Rattle.access.specs.Bits.{bit}
use Rattle.access.proofs.BitLaws.{bit_or_lem}
use Rattle.order.proofs.RowLaws.{leq_more}
use Rattle.grid.proofs.grids.Grid.add.Goals as goal

pub returns-then-x : goal.returns-then-x
returns-then-x g c z y =
    let rows = c.args.self.now.rows in
    let x = c.args.x in
    let inside : x < length rows = omega arith in
    let m = leq_more rows x _ (bit c.args.more) inside (λ b. bit_or_lem (get_or rows x 0) c.args.more b) z y in
    grind (arith, nat_tests, m)
