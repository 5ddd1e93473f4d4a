use Rattle.std.proofs.Common.{is_some, ap, ⊎_elim, arith}
use Rattle.std.proofs.lemmas.Bool.{both_ways}
use Rattle.fitting.proofs.Smalls.{stands_small}
use Rattle.grid.proofs.Bitwise.{left_first, left_more, left_none}
use Rattle.saturation.proofs.Going.{grown_same, grown_trans}
use Rattle.saturation.proofs.Staying.{serves_more, lent_later, foothold_later}
use Rattle.saturation.proofs.Standing.{acted_small}
use Rattle.saturation.proofs.lending.lends_each.Goals as goal

pub loop-u-init : goal.loop-u-init
loop-u-init c =
    let g = c.requires.serves.goes in
    let small = stands_small g.ran.sound _ (ap is_some c.requires.foothold.owner.second.there) in
    rw c.into_iter-u-iterator.ensures.into_iter_gives
    (record {
      grown = grown_same g;
      lent = left_first _ _ _ c.missing.type_inv (λ v m f. record {
        is = λ _ _. ⊎_elim (λ t. absurd (both_ways _ f t)) (λ n. n) (c.missing.ensures _ v g small (acted_small v g m) m);
      });
    })

pub overflow_cast-lent : goal.overflow_cast-lent
overflow_cast-lent c = omega (arith, c.loop-u.invariant.lent.small _ c.in-Some.ensures.steps.0)

pub lends_one-requires-clause-serves : goal.lends_one-requires-clause-serves
lends_one-requires-clause-serves c = serves_more c.requires.serves c.loop-u.invariant.grown

pub lends_one-requires-clause-acted : goal.lends_one-requires-clause-acted
lends_one-requires-clause-acted c = c.loop-u.invariant.grown.part.acted _ c.requires.acted

pub lends_one-requires-clause-foothold : goal.lends_one-requires-clause-foothold
lends_one-requires-clause-foothold c = foothold_later c.loop-u.invariant.grown.part c.requires.foothold

pub loop-u-preserved : goal.loop-u-preserved
loop-u-preserved c =
    let h = c.loop-u.invariant in
    let e = c.lends_one.ensures in
    record {
      grown = grown_trans h.grown e.grown;
      lent = left_more _ _ _ _ _ _ c.in-Some.ensures.steps (λ v l. lent_later e.grown.part l) (λ i. e.lent (h.grown.part.acted _ i)) h.lent;
    }

pub returns-clause-lent : goal.returns-clause-lent
returns-clause-lent c u h m = left_none _ _ _ c.in-None.ensures.steps.0 c.loop-u.invariant.lent u m
