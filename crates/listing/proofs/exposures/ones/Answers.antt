use Rattle.std.proofs.Common.{rules, arith}
use Rattle.std.proofs.lemmas.Iterator.{YieldsList-from_slice}
use Rattle.std.proofs.lemmas.Iterator.Adapters.{fits_from_length, at_most_from_yields_List}
use borrow.Author.Tests.{tests}
use Rattle.listing.proofs.Counting.{ones_few}
use Rattle.listing.proofs.exposures.ones.Goals as goal

pub sum-requires-clause-fits : goal.sum-requires-clause-fits
sum-requires-clause-fits c =
    fits_from_length _ _ 96 _ (at_most_from_yields_List (YieldsList-from_slice c.args.row.now cc) (grind (arith, c.fits-row))) c.map.ensures.closure (omega arith) (λ x r q k. search (rules, tests))

pub returns-clause-bound : goal.returns-clause-bound
returns-clause-bound c = grind (arith, c.fits-row, ones_few c.args.row.now)
