use Rattle.std.proofs.Common.{None, ◌∙◌, arith}
use Rattle.std.proofs.lemmas.List.{get_or_default}
use Rattle.session.specs.Models.{lists_of}
use Rattle.session.specs.Reached.{state_of}
use Rattle.saturation.specs.Kept.{bare}
use Rattle.saturation.proofs.Onwards.{told_more, bare_recorded}
use Rattle.saturation.proofs.keeping.OwnRows.rows.Goals as goal

pub returns-in-Some-clause-fresh : goal.returns-in-Some-clause-fresh
returns-in-Some-clause-fresh c = c.refresh.ensures (lists_of c.args.model.now) c.requires.keeps

pub returns-in-Some-clause-rows : goal.returns-in-Some-clause-rows
returns-in-Some-clause-rows c =
    let there = get_or_default c.refresh.new.self.of c.args.account None _ (omega (arith, c.requires.small)) in
    (c.refresh.ensures (lists_of c.args.model.now) c.requires.keeps).tells _ _ (there ∙ c.in-Some.is)

pub returns-clause-fresh : goal.returns-clause-fresh
returns-clause-fresh c =
    let L = lists_of c.args.model.now in
    let all = rw c.deref.ensures.value at c.rows-rows.ensures in
    let f = c.refresh.ensures L c.requires.keeps in
    record {
      members = f.members;
      tells = told_more L (bare L (state_of L c.args.state.now)) c.refresh.new.self.of c.args.account c.rows-rows.result (omega (arith, c.requires.small))
          (all _ (bare_recorded L c.args.state.now)) f.tells;
    }

pub returns-clause-rows : goal.returns-clause-rows
returns-clause-rows c =
    let all = rw c.deref.ensures.value at c.rows-rows.ensures in
    all _ (bare_recorded (lists_of c.args.model.now) c.args.state.now)
