use Rattle.std.proofs.Common.{inl, arith}
use Rattle.grid.proofs.Bitwise.{left_without, left_more, left_none}
use Rattle.saturation.proofs.Going.{grown_same, grown_trans}
use Rattle.saturation.proofs.Staying.{serves_more, taken_later}
use Rattle.saturation.proofs.Standing.{entered_small}
use Rattle.saturation.proofs.taking.takes_from.Goals as goal

pub loop-v-init : goal.loop-v-init
loop-v-init c =
    let g = c.requires.serves.goes in
    rw c.into_iter-v-iterator.ensures.into_iter_gives
    (record {
      grown = grown_same g;
      taken = left_without _ _ _ _ _ c.without.type_inv c.without.ensures (λ u m. (c.entrants-entrants.ensures _ u (entered_small _ g m) g.ran.marked).1 m)
          (λ u m t. record { is = λ _. inl ((c.actors.ensures _ u (entered_small _ g m).1 g.ran.marked).0 t) });
    })

pub overflow_cast-entry : goal.overflow_cast-entry
overflow_cast-entry c = omega (arith, c.loop-v.invariant.taken.small _ c.in-Some.ensures.steps.0)

pub take_entered-requires-clause-serves : goal.take_entered-requires-clause-serves
take_entered-requires-clause-serves c = serves_more c.requires.serves c.loop-v.invariant.grown

pub take_entered-requires-clause-acted : goal.take_entered-requires-clause-acted
take_entered-requires-clause-acted c = c.loop-v.invariant.grown.part.acted _ c.requires.acted

pub loop-v-preserved : goal.loop-v-preserved
loop-v-preserved c =
    let h = c.loop-v.invariant in
    let e = c.take_entered.ensures in
    record {
      grown = grown_trans h.grown e.grown;
      taken = left_more _ _ _ _ _ _ c.in-Some.ensures.steps (λ u t. taken_later e.grown.part t) (λ i. e.taken (h.grown.part.entered _ i)) h.taken;
    }

pub returns-clause-taken : goal.returns-clause-taken
returns-clause-taken c v h m = left_none _ _ _ c.in-None.ensures.steps.0 c.loop-v.invariant.taken v m
