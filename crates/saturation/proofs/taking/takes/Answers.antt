use Rattle.std.proofs.Common.{refl, below_more, arith}
use Rattle.saturation.proofs.Going.{grown_trans}
use Rattle.saturation.proofs.Staying.{serves_more, taken_later}
use Rattle.saturation.proofs.Standing.{entered_small}
use Rattle.saturation.proofs.taking.takes.Goals as goal

pub takes_if-requires-clause-serves : goal.takes_if-requires-clause-serves
takes_if-requires-clause-serves c = serves_more c.requires.serves c.loop-e.invariant.grown

pub takes_if-requires-clause-acted : goal.takes_if-requires-clause-acted
takes_if-requires-clause-acted c = c.loop-e.invariant.grown.part.acted _ c.requires.acted

pub loop-e-preserved : goal.loop-e-preserved
loop-e-preserved c =
    let h = c.loop-e.invariant in
    let e = c.takes_if.ensures in
    record {
      grown = grown_trans h.grown e.grown;
      taken = below_more _ _ (λ d m n i q. taken_later e.grown.part (h.taken d m n i q)) (λ n i q. e.taken n (h.grown.part.entered _ i) q);
    }

pub returns-clause-taken : goal.returns-clause-taken
returns-clause-taken c n m = c.loop-e.invariant.taken _ (omega (arith, (entered_small n c.requires.serves.goes m).0, c.loop-e-test.false)) n m refl
