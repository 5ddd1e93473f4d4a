use Rattle.std.proofs.Common.{◌≡◌, ℕ, ◌<◌, ◌∙◌, Bool, ◌&&◌, sym, ap, arith}
use Rattle.std.proofs.lemmas.Bool.{and_parts, and_from}
use Rattle.access.specs.declared.rights.Right.TheVariants.{Alter}
use Rattle.access.specs.Bits.{bit}
use Rattle.session.specs.Models.{lists_of}
use Rattle.session.proofs.Readiness.{ready}
use Rattle.extent.specs.Tests.{held}
use Rattle.extent.proofs.Counting.{room}
use Rattle.extent.proofs.Filling.{filling_first, filling_more, filling_none}
use Rattle.extent.proofs.Growing.{grown_same, grown_trans}
use Rattle.extent.proofs.Holding.{held_later}
use Rattle.extent.proofs.extents.Extent.joins.Goals as goal

pub loop-role-init : goal.loop-role-init
loop-role-init c =
    let test = λ (q : ℕ). held c.args.tables.now c.args.self.now c.args.account 4 q in
    let word : (q : ℕ) → bit c.both-open.result q ≡ (test q && bit c.args.tables.now.roles q) =
    λ q. c.both-open.ensures q ∙ ap (λ (b : Bool). b && bit c.args.tables.now.roles q) (c.held.ensures q) in
    rw c.into_iter-role-iterator.ensures.into_iter_gives
    (record {
      came = c.requires.came;
      grown = grown_same _;
      filling = filling_first _ _ _ (bit c.both-open.result) c.without-more.type_inv c.without-more.ensures
          (λ q t. let (h, i) = and_parts _ _ (sym (word q) ∙ t) in ((c.requires.told.roles q).0 i, h))
          (λ q (i, h). word q ∙ and_from _ _ h ((c.requires.told.roles q).1 i));
    })

pub overflow_cast-role : goal.overflow_cast-role
overflow_cast-role c = let small : c.in-Some.role < 128 = c.loop-role.invariant.filling.small _ c.in-Some.ensures.steps.0 in omega arith

pub join-requires : goal.join-requires
join-requires c =
    let h = c.loop-role.invariant in
    let taken = c.in-Some.ensures.steps.0 in
    record { small = h.filling.small _ taken; room = room (ready c.args.model.now).sound h.came; new = h.filling.fresh _ taken }

pub loop-role-preserved : goal.loop-role-preserved
loop-role-preserved c =
    let h = c.loop-role.invariant in
    let e = c.join.ensures in
    let (i, may) = h.filling.wanted _ c.in-Some.ensures.steps.0 in
    record {
      came = e.came (lists_of c.args.model.now) (ready c.args.model.now).sound c.requires.told h.came i
          (λ F shows. (
            c.args.account,
            (shows.acted c.args.account).0 (h.grown.larger.acted _ c.requires.acted),
            held_later c.requires.told h.grown.larger shows c.requires.account _ Alter may,
          ));
      grown = grown_trans h.grown e.grown;
      filling = filling_more _ _ _ _ _ _ c.in-Some.ensures.steps e.only h.filling;
    }

pub returns-clause-done : goal.returns-clause-done
returns-clause-done c q i may = filling_none _ _ _ c.in-None.ensures.steps.0 c.loop-role.invariant.filling q (i, may)
