use Rattle.fitting.proofs.Allowing.{opens_from}
use Rattle.session.specs.Models.{lists_of}
use Rattle.grid.proofs.Bitwise.{left_first, left_more, left_none}
use Rattle.saturation.proofs.Going.{grown_same, grown_trans}
use Rattle.saturation.proofs.Staying.{done_later, done_before}
use Rattle.saturation.proofs.following.follow_for_each.Goals as goal

pub loop-v-init : goal.loop-v-init
loop-v-init c =
    let L = lists_of c.args.model.now in
    rw c.into_iter-v-iterator.ensures.into_iter_gives
    (record {
      grown = grown_same c.requires.goes;
      keeps = c.requires.keeps;
      done = left_first _ _ _ c.waiting.type_inv (λ u m f h. c.waiting.ensures L c.requires.goes c.requires.listed u m f);
    })

pub follow-requires : goal.follow-requires
follow-requires c = record { goes = c.loop-v.invariant.grown.goes; keeps = c.loop-v.invariant.keeps; listed = c.requires.listed }

pub loop-v-preserved : goal.loop-v-preserved
loop-v-preserved c =
    let h = c.loop-v.invariant in
    let e = c.follow.ensures in
    record {
      grown = grown_trans h.grown e.grown;
      keeps = e.keeps;
      done = left_more _ _ _ _ _ _ c.in-Some.ensures.steps (λ u p. done_later _ e.grown.part p) (λ _. done_before _ h.grown.part e.done) h.done;
    }

pub returns-clause-done : goal.returns-clause-done
returns-clause-done c v a = left_none _ _ _ c.in-None.ensures.steps.0 c.loop-v.invariant.done v (opens_from a).0 a
