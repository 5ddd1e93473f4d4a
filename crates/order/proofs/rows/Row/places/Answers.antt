use Rattle.std.proofs.Common.{◌≡◌, ℕ, ◌+◌, ◌*◌, ◌%◌, ◌^◌, ◌<◌, ◌||◌, length, get_or, ap, ◌∙◌, arith}
use Rattle.access.specs.Bits.{bit}
use Rattle.access.proofs.BitLaws.{bit_or_lem, bit_power}
use Rattle.order.proofs.SetRows.{place_more, place_none, place_next, told_small}
use Rattle.order.proofs.rows.Row.places.Goals as goal
use Rattle.order.proofs.rows.Row.places.Goals.{then-from-ne0, else-from-ne0}

pub loop-set-preserved : goal.loop-set-preserved
loop-set-preserved c =
    let sets = c.args.self.now.sets in
    let x = c.loop-set.set-index in
    let places = c.loop-set.places in
    let own = c.loop-set.invariant in
    let h : x < length sets = omega arith in
    let next : c.loop-set.place * 2 ^ 1 % 2 ^ 128 ≡ 2 ^ (x + 1) = place_next c.loop-set.place x own.1 (omega arith) in
    elim c.if-from-ne0.branch [
      | then-from-ne0 w ↦
          rw w.places-is (
            place_more sets x places own.0 _
                (λ y. bit_or_lem places c.loop-set.place y ∙ ap (λ (m : ℕ). bit places y || bit m y) own.1 ∙ ap (λ b. bit places y || b) (bit_power x y)),
            next,
          )
      | else-from-ne0 w ↦
          let none : (get_or sets x c.set-item.result).bits ≡ 0 = cc in
          rw w.places-is (place_none sets x places own.0 c.set-item.result h none, next)
    ]

pub returns : goal.returns
returns c x k t =
    let small = told_small c.args.self.now.sets 96 (omega arith) x k t in c.loop-set.invariant.0 x k (omega arith) t
