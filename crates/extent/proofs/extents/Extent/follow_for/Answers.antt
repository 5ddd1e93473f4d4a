use Rattle.std.proofs.Common.{◌≡◌, ◌+◌, ◌*◌, true, ap, ◌∙◌, sym, arith}
use Rattle.std.proofs.lemmas.Bool.{both_ways, and_from, and_parts}
use Rattle.access.specs.Places.{place_of}
use Rattle.grid.proofs.Bitwise.{left_first, left_more, left_none}
use Rattle.lookup.proofs.Slots.{sort_small}
use Rattle.session.specs.Models.{lists_of}
use Rattle.session.proofs.Readiness.{ready}
use Rattle.extent.proofs.Growing.{grown_same, grown_trans}
use Rattle.extent.proofs.Counting.{room}
use Rattle.fitting.proofs.Smalls.{is_small, object_small}
use Rattle.grid.specs.Grids.{noted}
use Rattle.extent.proofs.Filling.{left_still}
use Rattle.holdings.proofs.Calling.{called_object}
use Rattle.extent.proofs.Rules.{follows, worker_is}
use Rattle.extent.proofs.extents.Extent.follow_for.Goals as goal

pub welcome-requires-clause-object : goal.welcome-requires-clause-object
welcome-requires-clause-object c = called_object (ready c.args.model.now).sound c.args.line c.requires.listed c.args.called c.requires.calls

pub loop-worker-init : goal.loop-worker-init
loop-worker-init c =
    rw c.into_iter-worker-iterator.ensures.into_iter_gives
    (record {
      came = c.requires.came;
      grown = grown_same _;
      known = λ w t. t;
      done = left_first _ _ _ c.both-new.type_inv (λ w t f. absurd (both_ways _ f t));
    })

-- what the loop knows of an account that it takes
pub enter-requires : goal.enter-requires
enter-requires c =
    let sound = (ready c.args.model.now).sound in
    let h = c.loop-worker.invariant in
    let w = c.in-Some.worker in
    let y = c.args.called in
    let (listed, may) = and_parts _ _ (sym (c.both-new.ensures w) ∙ h.known w c.in-Some.ensures.steps.0) in
    let is = worker_is sound c.requires.came c.args.line c.requires.listed w (c.requires.workers w listed) in
    let small = object_small sound (called_object sound c.args.line c.requires.listed y c.requires.calls) in
    record {
      small = (omega (arith, c.sort-sort.ensures, sort_small y), omega (arith, c.place-place.ensures, small), is_small sound is);
      room = room sound h.came;
      new = sym c.has.ensures ∙ c.if-not-has.true;
    }

pub loop-worker-preserved-then-not-has : goal.loop-worker-preserved-then-not-has
loop-worker-preserved-then-not-has c =
    let L = lists_of c.args.model.now in
    let sound = (ready c.args.model.now).sound in
    let h = c.loop-worker.invariant in
    let e = c.enter.ensures in
    let w = c.in-Some.worker in
    let y = c.args.called in
    let steps = c.in-Some.ensures.steps in
    let (listed, may) = and_parts _ _ (sym (c.both-new.ensures w) ∙ h.known w steps.0) in
    let from = c.requires.workers w listed in
    let is = worker_is sound c.requires.came c.args.line c.requires.listed w from in
    let enters = follows sound c.requires.told c.args.line c.requires.listed y c.requires.calls c.args.self.now from.0 w from.1 from.2 is ((c.welcome.ensures w is).0 may) in
    record {
      came = e.came L y sound h.came (sym c.sort-sort.ensures) (sym c.place-place.ensures) (λ F shows. enters _ F h.grown.larger shows);
      grown = grown_trans h.grown e.grown;
      known = λ v t. h.known v (left_still _ _ _ steps v t);
      done = left_more _ _ _ _ _ _ steps (λ v f. e.grown.larger.entered _ _ f) (λ _. e.there y (sym c.sort-sort.ensures) (sym c.place-place.ensures)) h.done;
    }

pub loop-worker-preserved : goal.loop-worker-preserved
loop-worker-preserved c =
    let h = c.loop-worker.invariant in
    let w = c.in-Some.worker in
    let y = c.args.called in
    let steps = c.in-Some.ensures.steps in
    let there : noted c.loop-worker.self.entered.rows (w + 96 * c.sort-sort.result) c.place-place.result ≡ true = sym c.has.ensures ∙ c.if-not-has.false in
    record {
      came = h.came;
      grown = h.grown;
      known = λ v t. h.known v (left_still _ _ _ steps v t);
      done = left_more _ _ _ _ _ _ steps (λ v f. f)
          (λ _. ap (λ n. noted c.loop-worker.self.entered.rows (w + 96 * n) (place_of y)) (sym c.sort-sort.ensures)
          ∙ ap (noted c.loop-worker.self.entered.rows (w + 96 * c.sort-sort.result)) (sym c.place-place.ensures) ∙ there)
          h.done;
    }

pub returns-clause-done : goal.returns-clause-done
returns-clause-done c w t m =
    let is = worker_is (ready c.args.model.now).sound c.requires.came c.args.line c.requires.listed w (c.requires.workers w t) in
    left_none _ _ _ c.in-None.ensures.steps.0 c.loop-worker.invariant.done w (c.both-new.ensures w ∙ and_from _ _ t ((c.welcome.ensures w is).1 m))
