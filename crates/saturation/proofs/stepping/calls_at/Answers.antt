use Rattle.std.proofs.Common.{rules}
use Rattle.saturation.proofs.Going.{grown_same, grown_trans}
use Rattle.saturation.proofs.Staying.{serves_more, adds_later, adds_before}
use Rattle.fitting.proofs.Taking.{taken_more}
use Rattle.saturation.proofs.stepping.calls_at.Goals as goal

pub calls_one-requires : goal.calls_one-requires
calls_one-requires c = serves_more c.requires c.loop-object.invariant.grown

pub loop-object-preserved : goal.loop-object-preserved
loop-object-preserved c =
    let h = c.loop-object.invariant in
    let e = c.calls_one.ensures in
    record {
      grown = grown_trans h.grown e.grown;
      added = taken_more _ _ _ _ (search rules) (λ x m. adds_later e.grown.part (h.added x m)) (adds_before h.grown.part e.added);
    }

pub loop-object-init : goal.loop-object-init
loop-object-init c = record { grown = grown_same c.requires.goes; added = λ x m. elim m [ ] }
