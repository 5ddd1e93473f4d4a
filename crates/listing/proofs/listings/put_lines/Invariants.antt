use Rattle.std.proofs.Common.{ℕ, List}
use Rattle.session.specs.Models.{lists_of}
use Rattle.listing.specs.Puts.{Puts}
use Rattle.listing.specs.Listings.{accounts_below, Lines}
use Rattle.listing.proofs.listings.put_lines.Given as goal

-- the lines of the accounts before this entity are written
abbrev pub invariant-loop-e : goal.invariant-loop-e
invariant-loop-e l =
    let L = lists_of l.model in
    (text : List ℕ) × Lines L (accounts_below L.entities l.e) text × Puts 0 text l.initial.room l.room l.at
