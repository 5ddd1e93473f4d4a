use Rattle.std.proofs.Common.{◌≡◌, ◌<◌, true, ◌||◌, eqb, length, get_or, sym, ap, ◌∙◌, subst, arith}
use Rattle.std.proofs.lemmas.Bool.{and_parts, eqb-true}
use Rattle.std.proofs.lemmas.Bool.Decides.{nat_tests}
use Rattle.access.specs.Bits.{bit}
use Rattle.access.proofs.SetLaws.{bit_zero}
use Rattle.access.proofs.BitLaws.{bit_or_lem, bit_shl}
use Rattle.order.proofs.RowLaws.{leq_more}
use Rattle.order.specs.Rows.{leq}
use Rattle.survey.proofs.Bytes.{taken_bit}
use Rattle.survey.proofs.writing.put_right.Goals as goal

pub loop-e-init : goal.loop-e-init
loop-e-init c = rw c.into_iter-e-iterator.ensures.into_iter_gives (record { among = λ e b. b; told = λ e j. grind (arith, nat_tests) })

pub bounds-row-e : goal.bounds-row-e
bounds-row-e c = c.requires.entities _ (c.loop-e.invariant.among _ c.in-Some.ensures.steps.0)

pub loop-e-preserved : goal.loop-e-preserved
loop-e-preserved c =
    let h = c.loop-e.invariant in
    let takes = c.in-Some.ensures.steps in
    let row = c.loop-e.row in
    let x = c.in-Some.e in
    let k = c.args.k in
    let there = h.among x takes.0 in
    let inside : x < length row = omega (arith, c.requires.entities x there) in
    record {
      among = λ e b. h.among e (and_parts _ _ (sym (takes.1 e) ∙ b)).0;
      told = λ e j.
          taken_bit _ (leq row e j) _ (eqb e x) (eqb j k) (bit c.args.entities e) (bit c.loop-e.e-iterator.0 e) _
          (leq_more row x _ (λ y. eqb y k) inside (λ y. bit_or_lem (get_or row x 0) _ y ∙ ap (λ b. leq row x y || b) (bit_shl 8 k y (omega (arith, c.requires.right)))) e j)
          (h.told e j) (takes.1 e) (λ i. subst (λ n. bit c.args.entities n ≡ true) (sym (eqb-true e x i)) there);
    }

pub returns : goal.returns
returns c e j =
    let last = ap (λ n. bit n e) c.in-None.ensures.steps.0 ∙ bit_zero e in
    grind (arith, nat_tests, c.loop-e.invariant.told e j, last)
