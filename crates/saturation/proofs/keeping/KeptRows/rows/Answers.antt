use Rattle.std.proofs.Common.{None, ◌∙◌, arith}
use Rattle.std.proofs.lemmas.List.{get_or_default}
use Rattle.session.specs.Models.{lists_of}
use Rattle.session.specs.Reached.{state_of}
use Rattle.saturation.proofs.Onwards.{told_more, since_now}
use Rattle.saturation.proofs.keeping.KeptRows.rows.Goals as goal

pub returns-in-Some-clause-keeps : goal.returns-in-Some-clause-keeps
returns-in-Some-clause-keeps c = record { sources = c.requires.keeps.sources; all = since_now (c.refresh.ensures (lists_of c.args.model.now) c.requires.keeps.all) }

pub returns-in-Some-clause-rows : goal.returns-in-Some-clause-rows
returns-in-Some-clause-rows c =
    let there = get_or_default c.refresh.new.self.of c.args.account None _ (omega (arith, c.requires.small)) in
    (c.refresh.ensures (lists_of c.args.model.now) c.requires.keeps.all).tells _ _ (there ∙ c.in-Some.is)

pub returns-clause-keeps : goal.returns-clause-keeps
returns-clause-keeps c =
    let L = lists_of c.args.model.now in
    let f = c.refresh.ensures L c.requires.keeps.all in
    record {
      sources = c.rows-rows.ensures.keeps;
      all = since_now (record {
        rights = f.rights;
        members = f.members;
        tells = told_more L (state_of L c.args.state.now) c.refresh.new.self.of c.args.account c.rows-rows.result (omega (arith, c.requires.small)) c.rows-rows.ensures.rows f.tells;
      });
    }
