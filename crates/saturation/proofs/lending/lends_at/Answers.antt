use Rattle.std.proofs.Common.{rules}
use Rattle.saturation.proofs.Going.{grown_same, grown_trans}
use Rattle.saturation.proofs.Staying.{serves_more, lent_later, foothold_later, in_all}
use Rattle.fitting.proofs.Taking.{taken_more}
use Rattle.saturation.proofs.lending.lends_at.Goals as goal

pub lends_to-requires-clause-serves : goal.lends_to-requires-clause-serves
lends_to-requires-clause-serves c = serves_more c.requires.serves c.loop-object.invariant.grown

pub lends_to-requires-clause-acted : goal.lends_to-requires-clause-acted
lends_to-requires-clause-acted c = c.loop-object.invariant.grown.part.acted _ c.requires.acted

pub loop-object-init : goal.loop-object-init
loop-object-init c = record { grown = grown_same c.requires.serves.goes; lent = λ x m. elim m [ ] }

pub loop-object-preserved : goal.loop-object-preserved
loop-object-preserved c =
    let h = c.loop-object.invariant in
    let e = c.lends_to.ensures in
    record {
      grown = grown_trans h.grown e.grown;
      lent = taken_more _ _ _ _ (search rules) (λ x m n u d q i. lent_later e.grown.part (h.lent x m n u d q i))
          (λ n u d q i. e.lent n u (foothold_later h.grown.part d) q (h.grown.part.acted _ i));
    }

pub returns-clause-lent : goal.returns-clause-lent
returns-clause-lent c x n u e d q i = c.loop-object.invariant.lent x (in_all _ _ (search rules) (c.objects_at-object-items.ensures.all _ e)) n u d q i
