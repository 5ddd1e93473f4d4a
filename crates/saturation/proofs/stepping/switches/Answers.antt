use Rattle.std.proofs.Common.{arith}
use Rattle.runs.specs.Turns.{Tried}
use Rattle.grid.proofs.Bitwise.{left_without, left_more, left_none}
use Rattle.saturation.proofs.Gaining.{acts_already}
use Rattle.saturation.proofs.Going.{grown_same, grown_trans}
use Rattle.saturation.proofs.Staying.{serves_more, adds_later, adds_before}
use Rattle.saturation.proofs.stepping.switches.Goals as goal

pub loop-v-init : goal.loop-v-init
loop-v-init c =
    let g = c.requires.serves.goes in
    rw c.into_iter-v-iterator.ensures.into_iter_gives
    (record {
      grown = grown_same g;
      added = left_without _ _ _ _ _ c.without.type_inv c.without.ensures (λ u i. c.requires.all u i.0 i.1)
          (λ u i t. record { part = λ o f. acts_already ((c.actors.ensures _ u i.0 g.ran.marked).0 t) });
    })

pub overflow_cast-step : goal.overflow_cast-step
overflow_cast-step c = omega (arith, c.loop-v.invariant.added.small _ c.in-Some.ensures.steps.0)

pub attempt-requires-clause-serves : goal.attempt-requires-clause-serves
attempt-requires-clause-serves c = serves_more c.requires.serves c.loop-v.invariant.grown

pub attempt-requires-clause-tried : goal.attempt-requires-clause-tried
attempt-requires-clause-tried c = Tried.switch

pub loop-v-preserved : goal.loop-v-preserved
loop-v-preserved c =
    let h = c.loop-v.invariant in
    let e = c.attempt.ensures in
    record {
      grown = grown_trans h.grown e.grown;
      added = left_more _ _ _ _ _ _ c.in-Some.ensures.steps (λ u a. adds_later e.grown.part a) (λ _. adds_before h.grown.part e.added) h.added;
    }

pub returns-clause-added : goal.returns-clause-added
returns-clause-added c v h = record { part = λ o f. (left_none _ _ _ c.in-None.ensures.steps.0 c.loop-v.invariant.added v (h, f.0)).part o f }
