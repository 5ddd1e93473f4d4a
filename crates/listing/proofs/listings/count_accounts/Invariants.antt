use Rattle.std.proofs.Common.{◌≡◌, length}
use Rattle.listing.specs.Listings.{accounts_below}
use Rattle.listing.proofs.listings.count_accounts.Given as goal

-- the accounts before this entity are counted
abbrev pub invariant-loop-n : goal.invariant-loop-n
invariant-loop-n l = l.count ≡ length (accounts_below l.entities l.n)
