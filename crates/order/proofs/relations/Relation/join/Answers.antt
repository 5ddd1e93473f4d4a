use Rattle.std.proofs.Common.{◌<◌, ◌&&◌, ◌||◌, length, get_or, sym, ap, ◌∙◌, arith}
use mathlib.Core.Bool.{or-false}
use Rattle.std.proofs.lemmas.Bool.Decides.{nat_tests}
use Rattle.access.specs.Bits.{bit}
use Rattle.access.proofs.BitLaws.{bit_or_lem}
use Rattle.order.proofs.RowLaws.{join_step, leq_past}
use Rattle.order.proofs.relations.Relation.join.Goals as goal
use Rattle.order.proofs.relations.Relation.join.Goals.{then-has_bit, else-has_bit}

pub loop-row-preserved : goal.loop-row-preserved
loop-row-preserved c =
    let lower = c.args.lower in
    let more = c.at-more.result in
    let s0 = c.args.self.now.rows in
    let s = c.loop-row.row-items in
    let i = c.loop-row.row-index in
    let row = get_or s i 0 in
    let h : i < length s = omega arith in
    elim c.if-has_bit.branch [
      | then-has_bit w ↦
          join_step s0 s _ lower more i _ h w.row-items-is c.loop-row.invariant
          (λ y. bit_or_lem row more y ∙ ap (λ b. bit row y || (b && bit more y)) w.if-has_bit.ensures)
      | else-has_bit w ↦
          join_step s0 s _ lower more i row h w.row-items-is c.loop-row.invariant
          (λ y. sym (or-false (bit row y)) ∙ ap (λ b. bit row y || (b && bit more y)) w.if-has_bit.ensures)
    ]

pub returns-clause-rows : goal.returns-clause-rows
returns-clause-rows c x y =
    grind (arith, nat_tests, c.loop-row.invariant x y, c.at-more.ensures y, leq_past c.args.self.now.rows x c.args.lower)
