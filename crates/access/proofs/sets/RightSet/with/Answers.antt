use Rattle.std.proofs.Common.{◌<◌, ◌||◌, eqb, ap, ◌∙◌, arith}
use Rattle.std.proofs.lemmas.Nat.{one_shl, or_lt, pow_below}
use Rattle.access.specs.Bits.{bit}
use Rattle.access.proofs.BitLaws.{bit_or_lem, bit_shl}
use Rattle.access.proofs.sets.RightSet.with.Goals as goal

pub invariant_of-result : goal.invariant_of-result
invariant_of-result c =
    let n = c.from.result in
    let small : n < 7 = c.from.ensures.1 in
    let e = one_shl n 8 (omega arith) in
    let p = pow_below n 7 small in
    record { small = or_lt 7 _ _ c.args.self.small (omega arith) }

pub returns : goal.returns
returns c k =
    let n = c.from.result in
    let small : n < 8 = omega (arith, c.from.ensures.1) in
    bit_or_lem c.args.self.bits _ k ∙ ap (λ b. bit c.args.self.bits k || b) (bit_shl 8 n k small ∙ ap (eqb k) c.from.ensures.0)
