use Rattle.std.proofs.Common.{map}
use Rattle.listing.specs.Puts.{Puts}
use Rattle.listing.specs.Listings.{accounts_below, mark}
use Rattle.listing.proofs.lines.put_marks.Given as goal

-- the accounts before this entity are done
abbrev pub invariant-loop-e : goal.invariant-loop-e
invariant-loop-e l = Puts l.start (map (mark l.row) (accounts_below l.entities l.e)) l.initial.room l.room l.at
