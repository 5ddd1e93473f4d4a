use Rattle.std.proofs.Common.{refl, ◌∙◌}
use Rattle.grid.proofs.Bitwise.{bit_small}
use Rattle.holdings.proofs.Taking.{still_small, bit_taken, one_added, none_left}
use Rattle.holdings.proofs.carried.note_accounts.Goals as goal

pub loop-a-init : goal.loop-a-init
loop-a-init c = rw c.into_iter-a-iterator.ensures.into_iter_gives (record {
  small = bit_small _ c.ranges.accounts.fits;
  holds = λ p k e h. refl;
  grants = λ p k e h. refl;
})

pub loop-a-preserved : goal.loop-a-preserved
loop-a-preserved c =
    let d = c.in-Some.a in
    let s = c.in-Some.ensures.steps in
    let i = c.loop-a.invariant in
    record {
      small = still_small d _ _ s i.small;
      holds = λ p k e h. bit_taken p d _ _ _ _ _ s (one_added p d _ _ _ (c.note_account.ensures.holds p k e h)) ∙ i.holds p k e h;
      grants = λ p k e h. bit_taken p d _ _ _ _ _ s (one_added p d _ _ _ (c.note_account.ensures.grants p k e h)) ∙ i.grants p k e h;
    }

pub returns-clause-holds : goal.returns-clause-holds
returns-clause-holds c p k e h = none_left p _ _ _ _ c.in-None.ensures.steps.0 (c.loop-a.invariant.holds p k e h)

pub returns-clause-grants : goal.returns-clause-grants
returns-clause-grants c p k e h = none_left p _ _ _ _ c.in-None.ensures.steps.0 (c.loop-a.invariant.grants p k e h)
