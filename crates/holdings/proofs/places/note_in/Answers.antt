use Rattle.std.proofs.Common.{refl, ◌∙◌}
use Rattle.holdings.proofs.Taking.{bit_taken, row_added, none_left}
use Rattle.holdings.proofs.places.note_in.Goals as goal

pub loop-d-init : goal.loop-d-init
loop-d-init c = rw c.into_iter-d-iterator.ensures.into_iter_gives (λ d e. refl)

pub loop-d-preserved : goal.loop-d-preserved
loop-d-preserved c d e =
    bit_taken d c.in-Some.d _ _ _ _ _ c.in-Some.ensures.steps (row_added d c.in-Some.d _ _ _ _ (c.add.ensures d e) (c.bit_of-own.ensures e)) ∙ c.loop-d.invariant d e

pub returns : goal.returns
returns c d e = none_left d _ _ _ _ c.in-None.ensures.steps.0 (c.loop-d.invariant d e)
