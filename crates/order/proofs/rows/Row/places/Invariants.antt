use Rattle.std.proofs.Common.{◌≡◌, ◌^◌}
use Rattle.order.proofs.SetRows.{PlacesBelow}
use Rattle.order.proofs.rows.Row.places.Given as goal

-- the places so far that have some right are among the bits, and the next place is one bit
abbrev pub invariant-loop-set : goal.invariant-loop-set
invariant-loop-set l = (PlacesBelow l.self.sets l.set-index l.places) × (l.place ≡ 2 ^ l.set-index)
