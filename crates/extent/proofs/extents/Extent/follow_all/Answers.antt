use Rattle.std.proofs.Common.{sym, subst, arith}
use Rattle.session.specs.Models.{lists_of}
use Rattle.session.proofs.Readiness.{ready}
use Rattle.extent.specs.declared.extents.Extent.{Extent}
use Rattle.extent.specs.Turns.{Followed}
use Rattle.extent.proofs.Counting.{room}
use Rattle.extent.proofs.Growing.{grown_same, grown_trans}
use Rattle.extent.proofs.extents.Extent.follow_all.Goals as goal

pub loop-self-init : goal.loop-self-init
loop-self-init c = record { came = c.requires.came; grown = grown_same _ }

pub loop-self-preserved : goal.loop-self-preserved
loop-self-preserved c = record {
  came = c.follow_back.ensures.came;
  grown = grown_trans c.loop-self.invariant.grown (grown_trans c.follow_each.ensures.grown c.follow_back.ensures.grown);
}

pub loop-self-smaller : goal.loop-self-smaller
loop-self-smaller c =
    let e = c.follow_each.ensures.grown in
    let b = c.follow_back.ensures.grown in
    omega (arith, e.counts, b.counts, room (ready c.args.model.now).sound c.follow_back.ensures.came, c.if-self-before.false)

pub returns-then-self-before-clause-grown : goal.returns-then-self-before-clause-grown
returns-then-self-before-clause-grown c = grown_trans c.loop-self.invariant.grown c.follow_each.ensures.grown

pub returns-then-self-before-clause-done : goal.returns-then-self-before-clause-done
returns-then-self-before-clause-done c l m =
    let L = lists_of c.args.model.now in
    let e = c.follow_each.ensures in
    subst (λ (s : Extent). Followed L c.args.tables.now l s c.follow_each.new.self) (sym (e.grown.quiet (omega (arith, c.if-self-before.true)))) (e.done l m)
