use Rattle.std.proofs.Common.{below_more}
use Rattle.saturation.proofs.Going.{grown_trans}
use Rattle.saturation.proofs.Staying.{serves_more, adds_later, adds_before}
use Rattle.saturation.proofs.stepping.grants.Goals as goal

pub grants_on-requires : goal.grants_on-requires
grants_on-requires c = serves_more c.requires c.loop-entity.invariant.grown

pub loop-entity-preserved : goal.loop-entity-preserved
loop-entity-preserved c =
    let h = c.loop-entity.invariant in
    let e = c.grants_on.ensures in
    record {
      grown = grown_trans h.grown e.grown;
      added = below_more _ _ (λ d m r. adds_later e.grown.part (h.added d m r)) (λ r. adds_before h.grown.part (e.added r));
    }
