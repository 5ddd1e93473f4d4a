use Rattle.std.proofs.Common.{rules, Bool, ◌∙◌}
use borrow.Author.Tests.{tests}
use Rattle.std.proofs.lemmas.Iterator.{YieldsList-from_slice}
use Rattle.std.proofs.lemmas.Iterator.Search.{position_from_yields_List}
use Rattle.catalogue.proofs.Search.{position_found}
use Rattle.catalogue.proofs.tables.find.Goals as goal

pub returns : goal.returns
returns g c =
    let test : g.row.T.Denot → Bool = λ y. g.T.Same.alike y c.args.x.now in
    position_from_yields_List test _ _ _ c.position.ensures.ran (YieldsList-from_slice c.args.table.now cc) (λ x b q k. search (rules, tests)) ∙ position_found test c.args.table.now
