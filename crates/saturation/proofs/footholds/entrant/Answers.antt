use Rattle.std.proofs.Common.{arith}
use Rattle.std.proofs.lemmas.Bool.{both_ways}
use Rattle.std.proofs.lemmas.Bool.Decides.{not_from_Decides}
use Rattle.grid.proofs.Bitwise.{left_first, left_more, left_none}
use Rattle.saturation.proofs.Standing.{entered_small}
use Rattle.saturation.proofs.footholds.entrant.Goals as goal

pub loop-v-init : goal.loop-v-init
loop-v-init c =
    rw c.into_iter-v-iterator.ensures.into_iter_gives
    (left_first _ _ _ c.entrants.type_inv (λ u _ f L g m. both_ways _ f ((c.entrants.ensures _ u (entered_small _ g m) g.ran.marked).1 m)))

pub overflow_cast-account : goal.overflow_cast-account
overflow_cast-account c = omega (arith, c.loop-v.invariant.small _ c.in-Some.ensures.steps.0)

pub loop-v-preserved : goal.loop-v-preserved
loop-v-preserved c =
    left_more _ _ _ _ _ _ c.in-Some.ensures.steps (λ u n. n) (λ _ L g. not_from_Decides _ (c.is_entered.ensures L g) c.if-is_entered.false) c.loop-v.invariant

pub returns : goal.returns
returns c L g u h m = left_none _ _ _ c.in-None.ensures.steps.0 c.loop-v.invariant u tt L g m
