use Rattle.std.proofs.Common.{◌≡◌, ℕ, ◌∙◌, Bool, true, ◌&&◌, sym, ap, not, subst}
use Rattle.session.specs.Models.{lists_of}
use Rattle.runs.specs.Saturated.{Rule}
use Rattle.session.proofs.Readiness.{ready}
use Rattle.access.specs.Bits.{bit}
use Rattle.extent.specs.Tests.{may}
use Rattle.extent.proofs.Counting.{room}
use Rattle.extent.proofs.Filling.{filling_first, filling_more, filling_none}
use Rattle.extent.proofs.Growing.{grown_same, grown_trans}
use Rattle.extent.proofs.Holding.{may_later}
use Rattle.access.proofs.NumberLaws.{right_numbered}
use Rattle.extent.proofs.Standing.{may_stands}
use Rattle.extent.proofs.extents.Extent.grant.Goals as goal

pub loop-entity-init : goal.loop-entity-init
loop-entity-init c =
    let test = λ (e : ℕ). may c.args.tables.now c.args.self.now c.args.account c.args.k e in
    rw c.into_iter-entity-iterator.ensures.into_iter_gives
    (record {
      came = c.requires.came;
      grown = grown_same _;
      filling = filling_first _ _ _ test c.without-more.type_inv
          (λ e. c.without-more.ensures e ∙ ap (λ (b : Bool). b && not (bit c.row.result e)) (c.may.ensures e) ∙ ap (λ (b : Bool). test e && not b) (c.row.ensures e)) (λ e t. t) (λ e t. t);
    })

pub give-requires : goal.give-requires
give-requires c =
    let h = c.loop-entity.invariant in
    let taken = c.in-Some.ensures.steps.0 in
    record { small = (c.requires.small, h.filling.small _ taken); room = room (ready c.args.model.now).sound h.came; new = h.filling.fresh _ taken }

pub loop-entity-preserved : goal.loop-entity-preserved
loop-entity-preserved c =
    let h = c.loop-entity.invariant in
    let e = c.give.ensures in
    let sound = (ready c.args.model.now).sound in
    let (r, number) = right_numbered c.args.k c.requires.small in
    let open_to = subst (λ (k : ℕ). may c.args.tables.now c.args.self.now c.args.account k c.in-Some.entity ≡ true) (sym number) (h.filling.wanted _ c.in-Some.ensures.steps.0) in
    let stands = may_stands sound h.came (may_later c.requires.told h.grown.larger h.came.shows c.requires.account _ r open_to) in
    record {
      came = e.came (lists_of c.args.model.now) r sound c.requires.told h.came number stands
          (λ F shows. Rule.grant ((shows.acted c.args.account).0 (h.grown.larger.acted _ c.requires.acted)) stands
          (may_later c.requires.told h.grown.larger shows c.requires.account _ r open_to));
      grown = grown_trans h.grown e.grown;
      filling = filling_more _ _ _ _ _ _ c.in-Some.ensures.steps e.only h.filling;
    }

pub returns-clause-done : goal.returns-clause-done
returns-clause-done c e t = filling_none _ _ _ c.in-None.ensures.steps.0 c.loop-entity.invariant.filling e t
