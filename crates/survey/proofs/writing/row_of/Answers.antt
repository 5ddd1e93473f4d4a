use Rattle.std.proofs.Common.{◌≡◌, rules, subst, arith}
use Rattle.session.specs.Models.{lists_of}
use Rattle.session.proofs.Readiness.{ready}
use Rattle.survey.proofs.Rowing.{Filled, filled_none, filled_more, filled_all}
use Rattle.survey.proofs.writing.row_of.Goals as goal

pub put_right-requires-clause-entities : goal.put_right-requires-clause-entities
put_right-requires-clause-entities c e b =
    c.uses.ensures.small (lists_of c.args.model.now) c.args.account e (ready c.args.model.now).sound c.requires.told c.of-extent.ensures b

pub loop-k-init : goal.loop-k-init
loop-k-init c = record { long = search rules; filled = filled_none (lists_of c.args.model.now) c.args.account }

pub loop-k-preserved : goal.loop-k-preserved
loop-k-preserved c =
    let L = lists_of c.args.model.now in
    record {
      long = c.put_right.array_long;
      filled = filled_more L c.args.account c.loop-k.k c.loop-k.row c.put_right.new.row c.uses.result c.loop-k-test.true c.put_right.ensures
          (λ e r n. c.uses.ensures.uses L c.args.account e r (ready c.args.model.now).sound c.requires.told c.of-extent.ensures n)
          c.loop-k.invariant.filled;
    }

pub returns : goal.returns
returns c =
    let last : c.loop-k.k ≡ 7 = omega (arith, c.loop-k.auto.k-end, c.loop-k-test.false) in
    filled_all (lists_of c.args.model.now) c.args.account c.loop-k.row c.loop-k.invariant.long (subst (λ k. Filled (lists_of c.args.model.now) c.args.account k c.loop-k.row) last c.loop-k.invariant.filled)
