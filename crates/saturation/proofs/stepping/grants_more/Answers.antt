use Rattle.std.proofs.Common.{ℕ, sym, ap, ◌∙◌}
use Rattle.std.proofs.lemmas.Bool.{eqb-true, not-false, or_left}
use Rattle.access.specs.Bits.{bit}
use Rattle.access.specs.Numbers.{right_number}
use Rattle.saturation.proofs.stepping.grants_more.Goals as goal

pub returns : goal.returns
returns c r e t =
    let same = eqb-true _ _ (not-false _ (sym c.ne.ensures ∙ e)) in
    let k = right_number r in
    ap (λ (b : ℕ). bit b k) (sym same) ∙ c.union.ensures k ∙ or_left _ _ (c.at.ensures k ∙ (rw (← c.actor.view_is) at t.1))
