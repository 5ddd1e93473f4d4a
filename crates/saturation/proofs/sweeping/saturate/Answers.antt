use Rattle.std.proofs.Common.{◌∙◌, arith}
use Rattle.session.specs.Models.{lists_of}
use Rattle.session.proofs.Readiness.{ready}
use Rattle.runs.proofs.Closing.{turns_tell}
use Rattle.fitting.proofs.Smalls.{is_small}
use Rattle.saturation.proofs.Standing.{room}
use Rattle.saturation.proofs.Sweeps.{opened_goes}
use Rattle.saturation.proofs.sweeping.saturate.Goals as goal

pub open-requires : goal.open-requires
open-requires c = record { small = is_small (ready c.args.model.now).sound c.requires }

pub loop-kept-init : goal.loop-kept-init
loop-kept-init c =
    let o = c.open.ensures in
    record { goes = opened_goes (ready c.args.model.now).sound c.requires o.opener o.state o.steps o.few o.marked; opener = o.opener; keeps = rw (o.state (lists_of c.args.model.now)) (c.none-kept.ensures _ _) }

pub returns-then-len-before-clause-tells : goal.returns-then-len-before-clause-tells
returns-then-len-before-clause-tells c =
    let g = c.sweep.ensures.grown in
    let opener = g.opener ∙ c.loop-kept.invariant.opener in
    turns_tell (lists_of c.args.model.now) g.goes.ran.sound c.args.account c.requires _ _ (rw opener at g.goes.ran.run)
    (c.sweep.ensures.quiet (omega (arith, c.len.ensures, c.len-before.ensures, c.if-len-before.true)))

pub returns-then-len-before-clause-few : goal.returns-then-len-before-clause-few
returns-then-len-before-clause-few c = omega (arith, room c.sweep.ensures.grown.goes)

pub loop-kept-smaller : goal.loop-kept-smaller
loop-kept-smaller c = omega (arith, c.sweep.ensures.grown.steps, room c.sweep.ensures.grown.goes, c.len.ensures, c.len-before.ensures, c.if-len-before.false)
