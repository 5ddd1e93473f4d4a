use Rattle.std.proofs.Common.{sym, subst, arith}
use Rattle.runs.specs.declared.steps.Step.TheVariants.{Follow}
use Rattle.session.specs.Models.{lists_of}
use Rattle.session.specs.Reached.{state_of}
use Rattle.session.specs.declared.states.RunState.{RunState}
use Rattle.saturation.specs.Progress.{Done}
use Rattle.saturation.proofs.Going.{grown_same, grown_trans}
use Rattle.saturation.proofs.Standing.{room}
use Rattle.saturation.proofs.following.follow_all.Goals as goal

pub loop-before-init : goal.loop-before-init
loop-before-init c = record { grown = grown_same c.requires.goes; keeps = c.requires.keeps }

pub follow_each-requires : goal.follow_each-requires
follow_each-requires c = record { goes = c.loop-before.invariant.grown.goes; keeps = c.loop-before.invariant.keeps }

pub follow_back-requires : goal.follow_back-requires
follow_back-requires c = record { goes = c.follow_each.ensures.grown.goes; keeps = c.follow_each.ensures.keeps }

pub loop-before-preserved : goal.loop-before-preserved
loop-before-preserved c = record {
  grown = grown_trans c.loop-before.invariant.grown (grown_trans c.follow_each.ensures.grown c.follow_back.ensures.grown);
  keeps = c.follow_back.ensures.keeps;
}

pub loop-before-smaller : goal.loop-before-smaller
loop-before-smaller c =
    let g = c.follow_back.ensures.grown in
    omega (arith, c.follow_each.ensures.grown.steps, g.steps, room g.goes, c.len.ensures, c.len-before.ensures, c.if-len-before.false)

pub returns-then-len-before-clause-grown : goal.returns-then-len-before-clause-grown
returns-then-len-before-clause-grown c = grown_trans c.loop-before.invariant.grown (grown_trans c.follow_each.ensures.grown c.follow_back.ensures.grown)

pub returns-then-len-before-clause-done : goal.returns-then-len-before-clause-done
returns-then-len-before-clause-done c v l m =
    let L = lists_of c.args.model.now in
    let e = c.follow_each.ensures in
    let b = c.follow_back.ensures in
    let after = sym (b.grown.quiet (omega (arith, e.grown.steps, b.grown.steps, c.len.ensures, c.len-before.ensures, c.if-len-before.true))) in
    let before = sym (e.grown.quiet (omega (arith, e.grown.steps, b.grown.steps, c.len.ensures, c.len-before.ensures, c.if-len-before.true))) in
    subst (λ (s : RunState). Done L (state_of L s) (state_of L s) (Follow v l)) after
    (subst (λ (s : RunState). Done L (state_of L s) (state_of L c.follow_each.new.state) (Follow v l)) before (e.done v l m))
