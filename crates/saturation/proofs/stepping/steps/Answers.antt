use Rattle.saturation.proofs.Going.{grown_trans}
use Rattle.saturation.proofs.Staying.{serves_more, adds_later, adds_before}
use Rattle.saturation.proofs.stepping.steps.Goals as goal

pub grants-requires : goal.grants-requires
grants-requires c = serves_more c.requires c.switches.ensures.grown

pub joins-requires-clause-serves : goal.joins-requires-clause-serves
joins-requires-clause-serves c = serves_more (serves_more c.requires c.switches.ensures.grown) c.grants.ensures.grown

pub calls-requires : goal.calls-requires
calls-requires c = serves_more c.requires (grown_trans (grown_trans c.switches.ensures.grown c.grants.ensures.grown) c.joins.ensures.grown)

pub returns-clause-switch : goal.returns-clause-switch
returns-clause-switch c v m =
    let b = c.grants.ensures.grown in
    let d = c.joins.ensures.grown in
    adds_later (grown_trans b (grown_trans d c.calls.ensures.grown)).part (c.switches.ensures.added v m)

pub returns-clause-grant : goal.returns-clause-grant
returns-clause-grant c e r m =
    let later = grown_trans c.joins.ensures.grown c.calls.ensures.grown in
    adds_before c.switches.ensures.grown.part (adds_later later.part (c.grants.ensures.added e r m))

pub returns-clause-join : goal.returns-clause-join
returns-clause-join c j m =
    let before = grown_trans c.switches.ensures.grown c.grants.ensures.grown in
    adds_before before.part (adds_later c.calls.ensures.grown.part (c.joins.ensures.added j m))

pub returns-clause-call : goal.returns-clause-call
returns-clause-call c x m =
    let before = grown_trans (grown_trans c.switches.ensures.grown c.grants.ensures.grown) c.joins.ensures.grown in
    adds_before before.part (c.calls.ensures.added x m)

pub returns-clause-grown : goal.returns-clause-grown
returns-clause-grown c =
    grown_trans (grown_trans c.switches.ensures.grown c.grants.ensures.grown) (grown_trans c.joins.ensures.grown c.calls.ensures.grown)
