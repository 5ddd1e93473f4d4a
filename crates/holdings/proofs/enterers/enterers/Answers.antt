use Rattle.std.proofs.Common.{◌∙◌}
use Rattle.holdings.proofs.Entering.{nothing_yet}
use Rattle.grid.proofs.Bitwise.{bit_small}
use Rattle.holdings.proofs.Taking.{still_small, bit_taken, none_left}
use Rattle.holdings.proofs.enterers.enterers.Goals as goal

pub loop-account-init : goal.loop-account-init
loop-account-init c =
    rw c.into_iter-account-iterator.ensures.into_iter_gives
    (record { small = bit_small _ c.ranges.accounts.fits; all = λ x v h. nothing_yet _ _ (c.empty-enterers.ensures _ v) })

pub loop-account-preserved : goal.loop-account-preserved
loop-account-preserved c =
    let d = c.in-Some.account in
    let s = c.in-Some.ensures.steps in
    let i = c.loop-account.invariant in
    record {
      small = still_small d _ _ s i.small;
      all = λ x v h. bit_taken v d _ _ _ _ _ s (c.note_enterer.ensures x v h) ∙ i.all x v h;
    }

pub returns : goal.returns
returns c x v h = none_left v _ _ _ _ c.in-None.ensures.steps.0 (c.loop-account.invariant.all x v h)
