use Rattle.std.proofs.Common.{arith, below_more}
use Rattle.saturation.proofs.Going.{grown_trans}
use Rattle.saturation.proofs.Staying.{serves_more, adds_later, adds_before}
use Rattle.saturation.proofs.stepping.joins.Goals as goal

pub joins_in-requires-clause-serves : goal.joins_in-requires-clause-serves
joins_in-requires-clause-serves c = serves_more c.requires.serves c.loop-role.invariant.grown

pub loop-role-preserved : goal.loop-role-preserved
loop-role-preserved c =
    let h = c.loop-role.invariant in
    let e = c.joins_in.ensures in
    record {
      grown = grown_trans h.grown e.grown;
      added = below_more _ _ (λ p m v l. adds_later e.grown.part (h.added p m v l)) (λ v l. adds_before h.grown.part (e.added v l));
    }

pub returns-clause-added : goal.returns-clause-added
returns-clause-added c j m = c.loop-role.invariant.added j.role (omega (arith, c.loop-role-test.false, m.1)) j.account m.0
