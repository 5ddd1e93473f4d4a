use Rattle.std.proofs.Common.{◌∙◌, sym, rules}
use Rattle.std.proofs.lemmas.Bool.{and_from, and_parts, both_ways}
use Rattle.access.specs.Places.{place_of}
use Rattle.grid.proofs.Bitwise.{left_first, left_more, left_none}
use Rattle.session.proofs.Readiness.{ready}
use Rattle.extent.proofs.Growing.{grown_same, grown_trans}
use Rattle.extent.proofs.Filling.{left_still}
use Rattle.extent.proofs.Planted.{no_bit}
use Rattle.extent.proofs.Rules.{acted_account, enters_later, lends}
use Rattle.extent.proofs.extents.Extent.lend.Goals as goal

pub returns-then-footholds-eq0-clause-done : goal.returns-then-footholds-eq0-clause-done
returns-then-footholds-eq0-clause-done c = record {
  entered = λ e u y somebody there acts o p.
      absurd (both_ways _ (no_bit _ e c.if-footholds-eq0.true) (c.both-footholds.ensures e ∙ and_from _ _ ((c.held_by_any.ensures e).1 somebody) there));
}

pub loop-u-init : goal.loop-u-init
loop-u-init c =
    rw c.into_iter-u-iterator.ensures.into_iter_gives
    (record {
      came = c.requires.came;
      grown = grown_same _;
      known = λ u t. t;
      done = left_first _ _ _ (search rules) (λ u t f. absurd (both_ways _ f t));
    })

pub lend_to-requires-clause-account : goal.lend_to-requires-clause-account
lend_to-requires-clause-account c =
    acted_account (ready c.args.model.now).sound c.requires.came c.in-Some.u (c.loop-u.invariant.known _ c.in-Some.ensures.steps.0)

pub lend_to-requires-clause-enters : goal.lend_to-requires-clause-enters
lend_to-requires-clause-enters c y o t =
    let h = c.loop-u.invariant in
    let (e, f, peers) = (c.peers-places.ensures (place_of y)).0 t in
    let (p, there) = and_parts _ _ (sym (c.both-footholds.ensures e) ∙ f) in
    let w = (c.held_by_any.ensures e).0 p in
    enters_later y c.in-Some.u h.grown.larger
    (lends c.requires.told w.account (acted_account (ready c.args.model.now).sound c.requires.came w.account w.acted) w.acted c.in-Some.u y
    (h.known _ c.in-Some.ensures.steps.0) o e there w.holds peers)

pub loop-u-preserved : goal.loop-u-preserved
loop-u-preserved c =
    let h = c.loop-u.invariant in
    let e = c.lend_to.ensures in
    let steps = c.in-Some.ensures.steps in
    record {
      came = e.came;
      grown = grown_trans h.grown e.grown;
      known = λ u t. h.known u (left_still _ _ _ steps u t);
      done = left_more _ _ _ _ _ _ steps (λ u f y o t. e.grown.larger.entered _ _ (f y o t)) (λ _ y o t. e.there y o t) h.done;
    }

pub returns-clause-done : goal.returns-clause-done
returns-clause-done c = record {
  entered = λ e u y somebody there acts o peers.
      left_none _ _ _ c.in-None.ensures.steps.0 c.loop-u.invariant.done u acts y o
      ((c.peers-places.ensures (place_of y)).1 (e, c.both-footholds.ensures e ∙ and_from _ _ ((c.held_by_any.ensures e).1 somebody) there, peers));
}
