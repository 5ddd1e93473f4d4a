use Rattle.std.proofs.Common.{ℕ, refl, ap, ◌∙◌, subst, is_some, below_more, arith}
use Rattle.std.proofs.lemmas.Bool.{both_ways}
use Rattle.access.specs.Bits.{bit}
use Rattle.access.proofs.SetLaws.{bit_zero}
use Rattle.fitting.proofs.Smalls.{stands_small}
use Rattle.saturation.specs.Among.{HasOwner}
use Rattle.saturation.proofs.Going.{grown_trans}
use Rattle.saturation.proofs.Staying.{serves_more, lent_later, foothold_later}
use Rattle.saturation.proofs.Standing.{acted_small}
use Rattle.saturation.proofs.lending.lends.Goals as goal

pub returns-then-owners-eq0-clause-lent : goal.returns-then-owners-eq0-clause-lent
returns-then-owners-eq0-clause-lent c x n u d i =
    let h = c.owners_of_footholds-owners.ensures x n d in
    absurd (both_ways _ (ap (λ (b : ℕ). bit b h.owner) c.if-owners-eq0.true ∙ bit_zero h.owner) h.among)

pub lends_if-requires-clause-serves : goal.lends_if-requires-clause-serves
lends_if-requires-clause-serves c = serves_more c.requires.serves c.loop-e.invariant.grown

pub lends_if-requires-clause-acted : goal.lends_if-requires-clause-acted
lends_if-requires-clause-acted c = c.loop-e.invariant.grown.part.acted _ c.requires.acted

pub loop-e-preserved : goal.loop-e-preserved
loop-e-preserved c =
    let h = c.loop-e.invariant in
    let e = c.lends_if.ensures in
    record {
      grown = grown_trans h.grown e.grown;
      lent = below_more _ _ (λ d m x n u p k q i. lent_later e.grown.part (h.lent d m x n u p k q i))
          (λ x n u p k q i. e.lent x n u p (subst (HasOwner c.args.actor.now.lists _) p (c.owners_of_footholds-owners.ensures x n k)) (foothold_later h.grown.part k) q (h.grown.part.acted _ i));
    }

pub returns-clause-lent : goal.returns-clause-lent
returns-clause-lent c x n u d i =
    let small = stands_small c.requires.serves.goes.ran.sound _ (ap is_some d.owner.second.there) in
    c.loop-e.invariant.lent _ (omega (arith, small, c.loop-e-test.false)) x n u refl d (acted_small u c.requires.serves.goes i) i
