use Rattle.std.proofs.Common.{◌≡◌, ℕ, ◌∙◌, Bool, ◌&&◌, sym, ap}
use Rattle.std.proofs.lemmas.Bool.{and_parts, and_from}
use Rattle.access.specs.declared.rights.Right.TheVariants.{Impersonate}
use Rattle.access.specs.Bits.{bit}
use Rattle.runs.specs.Saturated.{Rule}
use Rattle.session.specs.Models.{lists_of}
use Rattle.session.proofs.Readiness.{ready}
use Rattle.extent.specs.Tests.{held}
use Rattle.extent.proofs.Counting.{room}
use Rattle.extent.proofs.Filling.{filling_first, filling_more, filling_none}
use Rattle.extent.proofs.Growing.{grown_same, grown_trans}
use Rattle.extent.proofs.Holding.{held_later}
use Rattle.extent.proofs.extents.Extent.switch.Goals as goal

pub loop-v-init : goal.loop-v-init
loop-v-init c =
    let test = λ (v : ℕ). held c.args.tables.now c.args.self.now c.args.account 6 v in
    let word : (v : ℕ) → bit c.both-open.result v ≡ (test v && bit c.args.tables.now.accounts v) =
    λ v. c.both-open.ensures v ∙ ap (λ (b : Bool). b && bit c.args.tables.now.accounts v) (c.held.ensures v) in
    rw c.into_iter-v-iterator.ensures.into_iter_gives
    (record {
      came = c.requires.came;
      grown = grown_same _;
      filling = filling_first _ _ _ (bit c.both-open.result) c.without-more.type_inv c.without-more.ensures
          (λ v t. let (h, i) = and_parts _ _ (sym (word v) ∙ t) in ((c.requires.told.accounts v).0 i, h))
          (λ v (i, h). word v ∙ and_from _ _ h ((c.requires.told.accounts v).1 i));
    })

pub act-requires : goal.act-requires
act-requires c =
    let h = c.loop-v.invariant in
    let taken = c.in-Some.ensures.steps.0 in
    record { small = h.filling.small _ taken; room = room (ready c.args.model.now).sound h.came; new = h.filling.fresh _ taken }

pub loop-v-preserved : goal.loop-v-preserved
loop-v-preserved c =
    let h = c.loop-v.invariant in
    let e = c.act.ensures in
    let (i, may) = h.filling.wanted _ c.in-Some.ensures.steps.0 in
    record {
      came = e.came (lists_of c.args.model.now) (ready c.args.model.now).sound h.came i
          (λ F shows. Rule.switch ((shows.acted c.args.account).0 (h.grown.larger.acted _ c.requires.acted)) i
          (held_later c.requires.told h.grown.larger shows c.requires.account _ Impersonate may));
      grown = grown_trans h.grown e.grown;
      filling = filling_more _ _ _ _ _ _ c.in-Some.ensures.steps e.only h.filling;
    }

pub returns-clause-done : goal.returns-clause-done
returns-clause-done c v i may = filling_none _ _ _ c.in-None.ensures.steps.0 c.loop-v.invariant.filling v (i, may)
