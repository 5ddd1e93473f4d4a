use Rattle.std.proofs.Common.{arith}
use Rattle.access.specs.Numbers.{rights}
use Rattle.runs.specs.Turns.{Tried}
use Rattle.saturation.proofs.Gaining.{grants_already}
use Rattle.saturation.proofs.Going.{grown_same, grown_trans}
use Rattle.saturation.proofs.Staying.{serves_more, adds_later, adds_before}
use Rattle.fitting.proofs.Taking.{taken_more, all_taken}
use Rattle.access.proofs.NumberLaws.{right_listed}
use Rattle.saturation.proofs.stepping.grants_on.Goals as goal

pub returns-then-not-grants_more-clause-added : goal.returns-then-not-grants_more-clause-added
returns-then-not-grants_more-clause-added c r =
    record { part = λ o f. grants_already c.args.account ((c.rights.ensures _ r f.1.0 c.requires.goes.ran.marked).0 (c.grants_more.ensures r c.if-not-grants_more.true f.1)) }

pub attempt-requires-clause-serves : goal.attempt-requires-clause-serves
attempt-requires-clause-serves c = serves_more c.requires c.loop-right.invariant.grown

pub attempt-requires-clause-tried : goal.attempt-requires-clause-tried
attempt-requires-clause-tried c = Tried.grant

pub loop-right-preserved : goal.loop-right-preserved
loop-right-preserved c =
    let h = c.loop-right.invariant in
    let e = c.attempt.ensures in
    record {
      grown = grown_trans h.grown e.grown;
      added = taken_more _ _ _ _ c.loop-right-test.true (λ r m. adds_later e.grown.part (h.added r m)) (adds_before h.grown.part e.added);
    }

pub loop-right-init : goal.loop-right-init
loop-right-init c = record { grown = grown_same c.requires.goes; added = λ r m. elim m [ ] }

pub returns-clause-added : goal.returns-clause-added
returns-clause-added c r = all_taken _ rights _ (omega (arith, c.loop-right-test.false)) c.loop-right.invariant.added r (right_listed r)
