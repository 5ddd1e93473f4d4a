use Rattle.std.proofs.Common.{◌<◌, ◌^◌, sym, ◌∙◌, arith}
use Rattle.std.proofs.lemmas.Bool.{le-ltb}
use Rattle.access.proofs.SetLaws.{bit_past}
use Rattle.access.proofs.BitLaws.{bit_test}
use Rattle.grid.proofs.grids.Grid.has.Goals as goal

pub returns-then-y-lt128 : goal.returns-then-y-lt128
returns-then-y-lt128 g c = bit_test c.row-row.result c.args.y ∙ c.row-row.ensures c.args.y

pub returns-else-y-lt128 : goal.returns-else-y-lt128
returns-else-y-lt128 g c =
    let fits : c.row-row.result < 2 ^ 128 = omega arith in
    le-ltb c.args.y 128 c.if-y-lt128.false ∙ sym (bit_past c.row-row.result 128 c.args.y fits c.if-y-lt128.false) ∙ c.row-row.ensures c.args.y
