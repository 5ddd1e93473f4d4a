use Rattle.std.proofs.Common.{arith}
use Rattle.session.specs.Models.{lists_of}
use Rattle.session.specs.Reached.{state_of}
use Rattle.saturation.proofs.Onwards.{carried_on, carried_new}
use Rattle.saturation.proofs.Everyone.{carries_from}
use Rattle.saturation.proofs.keeping.CarriedRow.refresh.Goals as goal

pub returns-then-self-grants : goal.returns-then-self-grants
returns-then-self-grants c =
    let L = lists_of c.args.model.now in
    let s = c.args.state.now in
    let g = c.requires.goes in
    carried_new L s _ (omega (arith, c.len-grants.ensures))
    (carries_from g _ _ (λ e r l. c.given.ensures (state_of L s) e r l g.ran.marked) c.along_places.ensures)

pub returns-else-self-grants : goal.returns-else-self-grants
returns-else-self-grants c =
    carried_on (lists_of c.args.model.now) c.args.state.now c.args.self.now c.requires.keeps (omega (arith, c.len-grants.ensures, c.if-self-grants.false))
