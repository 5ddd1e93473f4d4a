use Rattle.std.proofs.Common.{rules, arith}
use Rattle.std.proofs.lemmas.Iterator.{YieldsList-from_slice}
use Rattle.std.proofs.lemmas.Iterator.Adapters.{fits_from_length, at_most_from_yields_List}
use borrow.Author.Tests.{tests}
use Rattle.image.specs.Layout.{in_order}
use Rattle.image.proofs.writer.bodies_len.Goals as goal

pub sum-requires-clause-fits : goal.sum-requires-clause-fits
sum-requires-clause-fits c =
    fits_from_length _ _ 5 _ (at_most_from_yields_List (YieldsList-from_slice in_order cc) (grind arith)) c.map.ensures.closure (omega arith) (λ x r q k. search (rules, tests))
