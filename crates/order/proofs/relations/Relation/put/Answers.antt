use Rattle.std.proofs.Common.{◌<◌, ◌||◌, eqb, length, get_or, ap, ◌∙◌, arith}
use lib.Bits.{bit_or}
use Rattle.access.specs.Bits.{bit}
use Rattle.access.proofs.BitLaws.{bit_or_lem}
use Rattle.order.proofs.RowLaws.{leq_more}
use Rattle.order.proofs.relations.Relation.put.Goals as goal

pub returns-clause-elements : goal.returns-clause-elements
returns-clause-elements c y = bit_or_lem _ _ y ∙ ap (λ b. bit c.args.self.now.elements y || b) (c.bit_of-own.ensures y)

pub returns-clause-rows : goal.returns-clause-rows
returns-clause-rows c =
    let rows = c.args.self.now.rows in
    let x = c.args.x in
    let own = c.bit_of-own.result in
    let above = c.args.above in
    let h : x < length rows = omega arith in
    leq_more rows x _ (λ y. eqb y x || bit above y) h
    (λ y. bit_or_lem (get_or rows x 0) (bit_or own above) y
    ∙ ap (λ b. bit (get_or rows x 0) y || b) (bit_or_lem own above y ∙ ap (λ b. b || bit above y) (c.bit_of-own.ensures y)))
