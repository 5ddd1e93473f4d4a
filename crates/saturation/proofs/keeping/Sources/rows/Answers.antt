use Rattle.session.specs.Models.{lists_of}
use Rattle.session.specs.Reached.{state_of}
use Rattle.saturation.proofs.Everyone.{rowed_united}
use Rattle.saturation.proofs.keeping.Sources.rows.Goals as goal

pub returns-clause-rows : goal.returns-clause-rows
returns-clause-rows c =
    let L = lists_of c.args.model.now in
    let g = c.requires.goes in
    rowed_united g _ _ c.refresh.ensures.carries (λ e r l. c.given.ensures (state_of L c.args.state.now) e r l g.ran.marked) c.rows-rows.ensures.rows
    c.add_row.ensures c.add_row-2.ensures
