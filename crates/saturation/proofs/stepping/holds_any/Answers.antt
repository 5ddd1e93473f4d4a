use Rattle.std.proofs.Common.{ℕ, sym, ap, ◌∙◌}
use Rattle.std.proofs.lemmas.Bool.{both_ways, eqb-true, not-false, true_from_ne_false}
use Rattle.access.specs.Bits.{bit}
use Rattle.access.specs.Numbers.{right_number}
use Rattle.saturation.proofs.stepping.holds_any.Goals as goal

pub returns : goal.returns
returns c r t =
    let k = right_number r in
    true_from_ne_false _
    (λ e.
    let same = eqb-true _ _ (not-false _ (sym c.ne.ensures ∙ e)) in
    both_ways _ (c.empty.ensures k) (ap (λ (b : ℕ). bit b k) (sym same) ∙ c.at.ensures k ∙ (rw (← c.actor.view_is) at t.1)))
