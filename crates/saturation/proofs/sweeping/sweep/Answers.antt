use Rattle.std.proofs.Common.{◌≡◌, length, sym, subst, arith}
use Rattle.session.specs.Models.{lists_of}
use Rattle.session.specs.Reached.{state_of}
use Rattle.session.specs.declared.states.RunState.{RunState}
use Rattle.saturation.specs.Progress.{steps_of, Began}
use Rattle.saturation.proofs.Going.{grown_trans}
use Rattle.saturation.proofs.Sweeps.{turned_by}
use Rattle.saturation.proofs.sweeping.sweep.Goals as goal

pub returns-clause-grown : goal.returns-clause-grown
returns-clause-grown c = grown_trans c.turns.ensures.grown c.follow_all.ensures.grown

pub returns-clause-quiet : goal.returns-clause-quiet
returns-clause-quiet c q a i =
    let L = lists_of c.args.model.now in
    let t = c.turns.ensures in
    let f = c.follow_all.ensures in
    let new = c.follow_all.new.state in
    let first : length (steps_of c.turns.new.state) ≡ length (steps_of c.args.state.now) = omega (arith, t.grown.steps, f.grown.steps, q) in
    let last : length (steps_of new) ≡ length (steps_of c.turns.new.state) = omega (arith, t.grown.steps, f.grown.steps, q) in
    turned_by (subst (λ (s : RunState). Began L (state_of L s) (state_of L s) a) (sym (f.grown.quiet last)) (t.quiet first a i)) f.done
