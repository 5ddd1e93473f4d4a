use Rattle.std.proofs.Common.{rules, sym, ◌∙◌}
use borrow.Author.Tests.{tests}
use Rattle.std.proofs.lemmas.Iterator.{YieldsList-from_slice}
use Rattle.std.proofs.lemmas.Iterator.Adapters.{option_map_id}
use Rattle.std.proofs.lemmas.Iterator.Consumers.{YieldsList-from_filter_map, nth_from_yields_List}
use Rattle.layer.proofs.proposals.nth_proposed.Goals as goal

pub returns : goal.returns
returns g c =
    sym (option_map_id c.nth.result)
    ∙ nth_from_yields_List c.nth.result _ c.args.n c.nth.ensures.ran (YieldsList-from_filter_map _ g.T.Proposed.held (YieldsList-from_slice c.args.proposals.now cc) c.filter_map.ensures.closure (λ x r q k. search (rules, tests)))
