use Rattle.std.proofs.Common.{arith}
use Rattle.listing.proofs.Accounts.{below_long}
use Rattle.listing.proofs.listings.count_accounts.Goals as goal

pub overflow_add-count : goal.overflow_add-count
overflow_add-count c = grind (arith, below_long c.args.entities.now c.loop-n.n, c.loop-n.invariant)
