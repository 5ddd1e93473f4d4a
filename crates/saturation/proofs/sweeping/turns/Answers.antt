use Rattle.std.proofs.Common.{◌≡◌, length, sym, subst, below_more, arith}
use Rattle.session.specs.Models.{lists_of}
use Rattle.session.specs.Reached.{state_of}
use Rattle.session.specs.declared.states.RunState.{RunState}
use Rattle.fitting.proofs.Smalls.{is_small}
use Rattle.saturation.specs.Progress.{steps_of, Began}
use Rattle.saturation.proofs.Going.{grown_trans}
use Rattle.saturation.proofs.sweeping.turns.Goals as goal

pub turn_of-requires : goal.turn_of-requires
turn_of-requires c = record { goes = c.loop-a.invariant.grown.goes; keeps = c.loop-a.invariant.keeps }

pub loop-a-preserved : goal.loop-a-preserved
loop-a-preserved c =
    let L = lists_of c.args.model.now in
    let h = c.loop-a.invariant in
    let e = c.turn_of.ensures in
    let new = c.turn_of.new.state in
    record {
      grown = grown_trans h.grown e.grown;
      keeps = e.keeps;
      quiet = λ q.
          let last : length (steps_of new) ≡ length (steps_of c.loop-a.state) = omega (arith, h.grown.steps, e.grown.steps, q) in
          let first : length (steps_of c.loop-a.state) ≡ length (steps_of c.args.state.now) = omega (arith, h.grown.steps, e.grown.steps, q) in
          let same = sym (e.grown.quiet last) in
          below_more _ _ (λ b m. subst (λ (s : RunState). Began L (state_of L s) (state_of L s) b) same (h.quiet first b m))
          (subst (λ (s : RunState). Began L (state_of L s) (state_of L new) c.loop-a.a) same e.began);
    }

pub returns-clause-quiet : goal.returns-clause-quiet
returns-clause-quiet c q a i =
    c.loop-a.invariant.quiet q a (omega (arith, is_small c.loop-a.invariant.grown.goes.ran.sound i, c.loop-a-test.false))
