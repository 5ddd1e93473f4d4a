use Rattle.std.proofs.Common.{◌≡◌, true, sym, subst, arith, ◌∙◌}
use Rattle.access.specs.Bits.{bit}
use Rattle.session.specs.Models.{lists_of}
use Rattle.session.proofs.Readiness.{ready}
use Rattle.extent.specs.declared.extents.Extent.{Extent}
use Rattle.extent.specs.Turns.{Begun, Followed}
use Rattle.extent.specs.Reached.{Reached}
use Rattle.extent.proofs.Counting.{room}
use Rattle.extent.proofs.Closing.{closed_reached}
use Rattle.fitting.proofs.Smalls.{is_small}
use Rattle.extent.proofs.extents.Extent.of.Goals as goal

pub open-extent-requires : goal.open-extent-requires
open-extent-requires c = omega (arith, is_small (ready c.args.model.now).sound c.requires.account)

pub loop-extent-init : goal.loop-extent-init
loop-extent-init c = record { came = c.begin.ensures.came; opener = c.begin.ensures.grown.larger.opener ∙ c.open-extent.ensures.opener }

pub loop-extent-preserved : goal.loop-extent-preserved
loop-extent-preserved c = record {
  came = c.begin-in-loop-extent.ensures.came;
  opener = c.begin-in-loop-extent.ensures.grown.larger.opener ∙ c.follow_all.ensures.grown.larger.opener ∙ c.loop-extent.invariant.opener;
}

pub loop-extent-smaller : goal.loop-extent-smaller
loop-extent-smaller c =
    let f = c.follow_all.ensures.grown in
    let t = c.begin-in-loop-extent.ensures.grown in
    omega (arith, t.counts, f.counts, room (ready c.args.model.now).sound c.begin-in-loop-extent.ensures.came, c.if-extent-before.false)

pub returns-then-extent-before : goal.returns-then-extent-before
returns-then-extent-before c =
    let L = lists_of c.args.model.now in
    let h = c.args.tables.now in
    let t = c.follow_all.new.self in
    let u = c.begin-in-loop-extent.new.self in
    let p = c.follow_all.ensures in
    let q = c.begin-in-loop-extent.ensures in
    let last : u ≡ t = q.grown.quiet (omega (arith, c.if-extent-before.true)) in
    subst (λ a. Reached L a u) (q.grown.larger.opener ∙ p.grown.larger.opener ∙ c.loop-extent.invariant.opener)
    (closed_reached (ready c.args.model.now).sound c.requires.told q.came (q.lent c.if-extent-before.true)
    (λ a i b. subst (λ (x : Extent). Begun L h a x u) (sym last) (q.begun a i (subst (λ (x : Extent). bit x.acted a ≡ true) last b)))
    (λ l m. subst (λ (x : Extent). Followed L h l x x) (sym last) (p.done l m)))

pub begin-requires-clause-came : goal.begin-requires-clause-came
begin-requires-clause-came c = c.open-extent.ensures.came (lists_of c.args.model.now) (ready c.args.model.now).sound c.requires.told c.requires.account
