use Rattle.std.proofs.Common.{rules}
use Rattle.saturation.proofs.Going.{grown_same, grown_trans}
use Rattle.saturation.proofs.Staying.{serves_more, taken_later, in_all}
use Rattle.saturation.proofs.Standing.{entered_small}
use Rattle.fitting.proofs.Taking.{taken_more}
use Rattle.saturation.proofs.taking.takes_at.Goals as goal

pub takes_from-requires-clause-serves : goal.takes_from-requires-clause-serves
takes_from-requires-clause-serves c = serves_more c.requires.serves c.loop-object.invariant.grown

pub takes_from-requires-clause-acted : goal.takes_from-requires-clause-acted
takes_from-requires-clause-acted c = c.loop-object.invariant.grown.part.acted _ c.requires.acted

pub loop-object-preserved : goal.loop-object-preserved
loop-object-preserved c =
    let h = c.loop-object.invariant in
    let e = c.takes_from.ensures in
    record {
      grown = grown_trans h.grown e.grown;
      taken = taken_more _ _ _ _ (search rules) (λ x m v q i. taken_later e.grown.part (h.taken x m v q i)) (λ v q i. e.taken v q (h.grown.part.entered _ i));
    }

pub loop-object-init : goal.loop-object-init
loop-object-init c = record { grown = grown_same c.requires.serves.goes; taken = λ x m. elim m [ ] }

pub returns-clause-taken : goal.returns-clause-taken
returns-clause-taken c n m e =
    c.loop-object.invariant.taken n.object (in_all _ _ (search rules) (c.objects_at-object-items.ensures.all _ e)) n.account (entered_small n c.requires.serves.goes m).1 m
