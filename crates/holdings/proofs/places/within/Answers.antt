use Rattle.std.proofs.Common.{length, ap, arith}
use Rattle.session.specs.Models.{lists_of}
use Rattle.session.proofs.Readiness.{ready}
use Rattle.holdings.proofs.Inside.{few_entities, noted_none, noted_more, noted_all}
use Rattle.holdings.proofs.places.within.Goals as goal

pub loop-x-init : goal.loop-x-init
loop-x-init c d e = noted_none _ _ e (c.empty-within.ensures d e)

pub note_in-requires : goal.note_in-requires
note_in-requires c = omega (arith, few_entities c.args.model.now _ c.entities-x-end.ensures)

pub loop-x-preserved : goal.loop-x-preserved
loop-x-preserved c d e =
    let m = c.args.model.now in
    noted_more (lists_of m) (ready m).sound d e c.loop-x.x _ _ _ (c.note_in.ensures d e) (c.above_place.ensures d) (c.loop-x.invariant d e)

pub returns : goal.returns
returns c d e =
    let m = c.args.model.now in
    noted_all (lists_of m) d e _ _ (omega (arith, ap length c.entities-x-end.ensures)) (c.loop-x.invariant d e)
