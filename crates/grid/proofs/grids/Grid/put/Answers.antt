use Rattle.std.proofs.Common.{◌<◌, ◌||◌, eqb, length, get_or, ap, ◌∙◌, arith}
use Rattle.access.proofs.BitLaws.{bit_or_lem, bit_shl}
use Rattle.order.proofs.RowLaws.{leq_more}
use Rattle.grid.specs.Grids.{noted}
use Rattle.grid.proofs.grids.Grid.put.Goals as goal

pub returns-then-y-lt128 : goal.returns-then-y-lt128
returns-then-y-lt128 g c z k h l =
    let rows = c.args.self.now.rows in
    let x = c.args.x in
    let y = c.args.y in
    let inside : x < length rows = omega arith in
    leq_more rows x _ (λ b. eqb b y) inside
    (λ b. bit_or_lem (get_or rows x 0) _ b ∙ ap (λ t. noted rows x b || t) (bit_shl 128 y b c.if-y-lt128.true))
    z k
