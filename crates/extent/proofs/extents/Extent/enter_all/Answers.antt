use Rattle.std.proofs.Common.{◌≡◌, ℕ, ◌+◌, ◌*◌, Bool, true, not, ◌&&◌, sym, ap, ◌∙◌, subst}
use Rattle.access.specs.Bits.{bit}
use Rattle.access.specs.Places.{place_of}
use Rattle.grid.specs.Grids.{noted}
use Rattle.session.specs.Models.{lists_of}
use Rattle.session.proofs.Readiness.{ready}
use Rattle.extent.proofs.Counting.{room}
use Rattle.extent.proofs.Filling.{filling_first, filling_more, filling_none}
use Rattle.extent.proofs.Growing.{grown_same, grown_trans}
use Rattle.fitting.proofs.Smalls.{is_small}
use Rattle.holdings.proofs.Entering.{object_of}
use Rattle.extent.proofs.extents.Extent.enter_all.Goals as goal

pub loop-place-init : goal.loop-place-init
loop-place-init c =
    rw c.into_iter-place-iterator.ensures.into_iter_gives
    (record {
      came = c.requires.came;
      grown = grown_same _;
      filling = filling_first _ _ _ (bit c.args.places) c.without-more.type_inv
          (λ v. c.without-more.ensures v ∙ ap (λ (b : Bool). bit c.args.places v && not b) (c.row.ensures v)) (λ v t. t) (λ v t. t);
    })

pub enter-requires : goal.enter-requires
enter-requires c =
    let sound = (ready c.args.model.now).sound in
    let h = c.loop-place.invariant in
    let taken = c.in-Some.ensures.steps.0 in
    record {
      small = (c.requires.small, c.requires.places _ (h.filling.wanted _ taken), is_small sound c.requires.account);
      room = room sound h.came;
      new = h.filling.fresh _ taken;
    }

pub loop-place-preserved : goal.loop-place-preserved
loop-place-preserved c =
    let h = c.loop-place.invariant in
    let e = c.enter.ensures in
    let taken = h.filling.wanted _ c.in-Some.ensures.steps.0 in
    let (x, sort, place) = object_of c.args.sort c.in-Some.place c.requires.small in
    let there = subst (λ (p : ℕ). bit c.args.places p ≡ true) (sym place) taken in
    record {
      came = e.came (lists_of c.args.model.now) x (ready c.args.model.now).sound h.came sort place (λ F shows. c.requires.enters x sort there _ F h.grown.larger shows);
      grown = grown_trans h.grown e.grown;
      filling = filling_more _ _ _ _ _ _ c.in-Some.ensures.steps e.only h.filling;
    }

pub returns-clause-there : goal.returns-clause-there
returns-clause-there c x sort there =
    subst (λ (n : ℕ). noted c.loop-place.self.entered.rows (c.args.account + 96 * n) (place_of x) ≡ true) (sym sort)
    (filling_none _ _ _ c.in-None.ensures.steps.0 c.loop-place.invariant.filling (place_of x) there)
