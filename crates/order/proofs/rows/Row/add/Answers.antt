use Rattle.std.proofs.Common.{ℕ, ◌<◌, ◌||◌, length, sym, ap, ◌∙◌, arith}
use Rattle.access.specs.Bits.{bit}
use Rattle.access.proofs.SetLaws.{byte_get_or}
use Rattle.order.proofs.SetRows.{told_set}
use Rattle.order.proofs.rows.Row.add.Goals as goal

pub returns-then-x-lt96 : goal.returns-then-x-lt96
returns-then-x-lt96 c =
    let sets = c.args.self.now.sets in
    let x = c.args.x in
    let more = bit c.args.more.bits in
    let h : x < length sets = omega arith in
    told_set sets 96 x c.union.result more h (omega arith)
    (λ k. c.union.ensures k ∙ ap (λ (b : ℕ). bit b k || more k) (sym (byte_get_or sets x c.index-self-x.result h)))
