use Rattle.std.proofs.Common.{◌∙◌, not, sym}
use Rattle.std.proofs.lemmas.Bool.{and_parts, both_ways, not-true}
use Rattle.std.proofs.lemmas.Bool.Decides.{not_from_Decides}
use Rattle.access.specs.Bits.{bit}
use Rattle.access.specs.Places.{place_of}
use Rattle.grid.proofs.Bitwise.{left_more, left_none, left_without}
use Rattle.session.specs.Models.{lists_of}
use Rattle.session.proofs.Readiness.{ready}
use Rattle.extent.proofs.Counting.{room}
use Rattle.extent.proofs.Growing.{grown_same, grown_trans}
use Rattle.fitting.proofs.Smalls.{is_small}
use Rattle.extent.proofs.Filling.{left_still}
use Rattle.extent.proofs.Planted.{left_fresh, no_bit}
use Rattle.extent.proofs.Rules.{takes_over, foothold}
use Rattle.extent.proofs.extents.Extent.take.Goals as goal

pub loop-v-init : goal.loop-v-init
loop-v-init c =
    let s = c.args.self.now in
    let e = c.without.ensures in
    rw c.into_iter-v-iterator.ensures.into_iter_gives
    (record {
      came = c.requires.came;
      grown = grown_same s;
      known = λ v t. (and_parts (bit c.args.tables.now.accounts v) (not (bit s.acted v)) (sym (e v) ∙ t)).0;
      fresh = λ v t. not-true _ (and_parts (bit c.args.tables.now.accounts v) (not (bit s.acted v)) (sym (e v) ∙ t)).1;
      done = left_without _ _ c.args.tables.now.accounts s.acted _ c.without.type_inv e (λ v t. t) (λ v t a x m p. a);
    })

pub entered_in-requires : goal.entered_in-requires
entered_in-requires c =
    let v = c.in-Some.v in
    is_small (ready c.args.model.now).sound ((c.requires.told.accounts v).0 (c.loop-v.invariant.known v c.in-Some.ensures.steps.0))

pub act-requires-clause-room : goal.act-requires-clause-room
act-requires-clause-room c = room (ready c.args.model.now).sound c.loop-v.invariant.came

pub loop-v-preserved-then-entered_in : goal.loop-v-preserved-then-entered_in
loop-v-preserved-then-entered_in c =
    let L = lists_of c.args.model.now in
    let sound = (ready c.args.model.now).sound in
    let h = c.loop-v.invariant in
    let e = c.act.ensures in
    let v = c.in-Some.v in
    let steps = c.in-Some.ensures.steps in
    let account = (c.requires.told.accounts v).0 (h.known v steps.0) in
    let (x, m, p) = c.entered_in.ensures.0 c.if-entered_in.true in
    record {
      came = e.came L sound h.came account
          (λ F shows. takes_over c.requires.told c.args.account c.requires.account c.requires.acted _ F h.grown.larger shows v (is_small sound account)
          (x, m, (and_parts _ _ (sym (c.footholds-footholds.ensures (place_of x)) ∙ p)).0));
      grown = grown_trans h.grown e.grown;
      known = λ u t. h.known u (left_still _ _ _ steps u t);
      fresh = left_fresh _ _ _ steps _ _ e.only h.fresh;
      done = left_more _ _ _ _ _ _ steps (λ u f y n q. e.grown.larger.acted u (f y n q)) (λ _ y n q. e.there) h.done;
    }

pub loop-v-preserved : goal.loop-v-preserved
loop-v-preserved c =
    let h = c.loop-v.invariant in
    let steps = c.in-Some.ensures.steps in
    record {
      came = h.came;
      grown = h.grown;
      known = λ u t. h.known u (left_still _ _ _ steps u t);
      fresh = λ u t. h.fresh u (left_still _ _ _ steps u t);
      done = left_more _ _ _ _ _ _ steps (λ u f. f)
          (λ _ y n q. absurd (not_from_Decides _ c.entered_in.ensures c.if-entered_in.false (y, h.grown.larger.entered _ _ n, q))) h.done;
    }

pub returns-then-footholds-eq0-clause-done : goal.returns-then-footholds-eq0-clause-done
returns-then-footholds-eq0-clause-done c x v account m p =
    absurd (both_ways _ (no_bit _ (place_of x) c.if-footholds-eq0.true)
    (foothold (ready c.args.model.now).sound c.requires.came x v account m _ (c.footholds-footholds.ensures (place_of x)) p))

pub returns-clause-done : goal.returns-clause-done
returns-clause-done c x v account m p =
    left_none _ _ _ c.in-None.ensures.steps.0 c.loop-v.invariant.done v ((c.requires.told.accounts v).1 account) x m
    (foothold (ready c.args.model.now).sound c.requires.came x v account m _ (c.footholds-footholds.ensures (place_of x)) p)
