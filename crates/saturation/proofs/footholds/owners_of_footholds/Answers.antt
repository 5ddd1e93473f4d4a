use Rattle.std.proofs.Common.{refl, below_more, arith}
use Rattle.std.proofs.lemmas.Bool.{both_ways}
use Rattle.fitting.proofs.Owners.{owner_small}
use Rattle.saturation.proofs.footholds.owners_of_footholds.Goals as goal
use Rattle.saturation.proofs.footholds.owners_of_footholds.Goals.{then-is_foothold, else-is_foothold}

pub loop-e-preserved : goal.loop-e-preserved
loop-e-preserved c =
    let s = c.requires.ran.sound in
    elim c.if-is_foothold.branch [
      | then-is_foothold w ↦ rw w.owners-is
          (below_more _ _
          (λ d h x n p f.
          let o = c.loop-e.invariant d h x n p f in
          let small = owner_small s o.owns in
          record { owner = o.owner; owns = o.owns; among = w.with_owner-owners.ensures.kept o.owner (omega arith) o.among })
          (λ x n p f.
          let small = owner_small s f.owner.first in
          record { owner = f.owner.owner; owns = f.owner.second; among = w.with_owner-owners.ensures.more f.owner.owner (omega arith) (rw (← c.actor.view_is, p) at f.owner.first) }))
      | else-is_foothold w ↦ rw w.owners-is
          (below_more _ _ c.loop-e.invariant (λ x n p f. absurd (both_ways _ w.if-is_foothold.false (c.is_foothold.ensures x n p f))))
    ]

pub returns : goal.returns
returns c x n f = c.loop-e.invariant _ (omega (arith, c.loop-e-test.false, f.alters.0)) x n refl f
