use Rattle.std.proofs.Common.{◌≡◌, true, ◌⊎◌, ⊎_elim, ◌∙◌, sym, subst, arith}
use Rattle.std.proofs.lemmas.Bool.{both_ways}
use Rattle.access.specs.declared.code.Object.{Object}
use Rattle.access.specs.Numbers.{right_number}
use Rattle.access.specs.Places.{place_of}
use Rattle.runs.specs.Runs.{worker}
use Rattle.runs.specs.Standing.{OneOwner, entry_right}
use Rattle.session.specs.Models.{lists_of}
use Rattle.session.proofs.Readiness.{ready}
use Rattle.extent.specs.Tests.{held, entrant, entry}
use Rattle.fitting.proofs.Smalls.{is_small}
use Rattle.extent.proofs.Planted.{left_or_other, no_bit}
use Rattle.holdings.proofs.Calling.{runner_account}
use Rattle.extent.proofs.Rules.{enters_again, line_entrant, same_call}
use Rattle.extent.proofs.extents.Extent.follow.Goals as goal

pub returns-then-entrants-eq0-clause-done : goal.returns-then-entrants-eq0-clause-done
returns-then-entrants-eq0-clause-done c = record {
  entered = λ v y i e a m.
      absurd (both_ways _ (no_bit _ v c.if-entrants-eq0.true)
      (c.entrants-entrants.ensures v ∙ line_entrant (ready c.args.model.now).sound c.requires.came c.args.line c.requires.listed v i e));
}

pub workers-requires-clause-small : goal.workers-requires-clause-small
workers-requires-clause-small c w e =
    let sound = (ready c.args.model.now).sound in
    omega (arith, is_small sound (runner_account sound c.args.line c.requires.listed w e))

pub returns-then-new-ne0-clause-done : goal.returns-then-new-ne0-clause-done
returns-then-new-ne0-clause-done c = record {
  entered = λ v y i e a m.
      let sound = (ready c.args.model.now).sound in
      let t = line_entrant sound c.requires.came c.args.line c.requires.listed v i e in
      let w = worker c.args.line.runner v in
      let one : c.in-Call.called ≡ y = same_call (sym c.in-Call.is ∙ a) in
      ⊎_elim
      (λ n. subst (λ (z : Object). entry c.follow_for.new.self z w ≡ true) one (c.follow_for.ensures.done w n (subst (λ (z : Object). (held c.args.tables.now c.args.self.now w (right_number (entry_right z)) (place_of z) ≡ true) ⊎ OneOwner (lists_of c.args.model.now) c.args.line.object z) (sym one) m)))
      (λ o. c.follow_for.ensures.grown.larger.entered _ _ (enters_again sound c.requires.came c.args.line c.requires.listed v t y a (subst (λ (z : Object). entrant c.args.self.now z w ≡ true) one (sym (c.entrants.ensures w) ∙ o))))
      (left_or_other _ _ _ c.without-new.ensures w (c.workers.ensures.all v (c.entrants-entrants.ensures v ∙ t)));
}

pub returns-else-new-ne0-clause-done : goal.returns-else-new-ne0-clause-done
returns-else-new-ne0-clause-done c = record {
  entered = λ v y i e a m.
      let sound = (ready c.args.model.now).sound in
      let t = line_entrant sound c.requires.came c.args.line c.requires.listed v i e in
      let w = worker c.args.line.runner v in
      let one : c.in-Call.called ≡ y = same_call (sym c.in-Call.is ∙ a) in
      ⊎_elim
      (λ n. absurd (both_ways _ (no_bit _ w c.if-new-ne0.false) n))
      (λ o. enters_again sound c.requires.came c.args.line c.requires.listed v t y a (subst (λ (z : Object). entrant c.args.self.now z w ≡ true) one (sym (c.entrants.ensures w) ∙ o)))
      (left_or_other _ _ _ c.without-new.ensures w (c.workers.ensures.all v (c.entrants-entrants.ensures v ∙ t)));
}
