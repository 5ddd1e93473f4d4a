use Rattle.std.proofs.Common.{refl, ◌∙◌}
use Rattle.grid.proofs.Bitwise.{bit_small}
use Rattle.holdings.proofs.Taking.{still_small, bit_taken, one_added, none_left}
use Rattle.holdings.proofs.carried.lend.Goals as goal

pub loop-p-init : goal.loop-p-init
loop-p-init c = rw c.into_iter-p-iterator.ensures.into_iter_gives (record {
  small = bit_small _ c.ranges.to.fits;
  holds = λ p k e h. refl;
  grants = λ p k e h. refl;
})

pub loop-p-preserved : goal.loop-p-preserved
loop-p-preserved c =
    let d = c.in-Some.p in
    let s = c.in-Some.ensures.steps in
    let i = c.loop-p.invariant in
    record {
      small = still_small d _ _ s i.small;
      holds = λ p k e h. bit_taken p d _ _ _ _ _ s (one_added p d _ _ _ (c.take.ensures.holds p k e h)) ∙ i.holds p k e h;
      grants = λ p k e h. bit_taken p d _ _ _ _ _ s (one_added p d _ _ _ (c.take.ensures.grants p k e h)) ∙ i.grants p k e h;
    }

pub returns-clause-holds : goal.returns-clause-holds
returns-clause-holds c p k e h = none_left p _ _ _ _ c.in-None.ensures.steps.0 (c.loop-p.invariant.holds p k e h)

pub returns-clause-grants : goal.returns-clause-grants
returns-clause-grants c p k e h = none_left p _ _ _ _ c.in-None.ensures.steps.0 (c.loop-p.invariant.grants p k e h)
