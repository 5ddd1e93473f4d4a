use Rattle.std.proofs.Common.{below_more}
use Rattle.saturation.proofs.Going.{grown_trans}
use Rattle.saturation.proofs.Staying.{serves_more, adds_later, adds_before}
use Rattle.saturation.proofs.stepping.calls.Goals as goal

pub calls_in-requires : goal.calls_in-requires
calls_in-requires c = serves_more c.requires c.loop-entity.invariant.grown

pub loop-entity-preserved : goal.loop-entity-preserved
loop-entity-preserved c =
    let h = c.loop-entity.invariant in
    let e = c.calls_in.ensures in
    record {
      grown = grown_trans h.grown e.grown;
      added = below_more _ _ (λ d m x p. adds_later e.grown.part (h.added d m x p)) (λ x p. adds_before h.grown.part (e.added x p));
    }
