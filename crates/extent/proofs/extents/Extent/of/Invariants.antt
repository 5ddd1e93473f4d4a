use Rattle.std.proofs.Common.{◌≡◌, ◌-◌}
use Rattle.session.specs.Models.{lists_of}
use Rattle.extent.specs.Shows.{Came}
use Rattle.extent.proofs.extents.Extent.of.Given as goal

abbrev pub invariant-loop-extent : goal.invariant-loop-extent
invariant-loop-extent l = record { came : Came (lists_of l.model) l.extent; opener : l.extent.opener ≡ l.account }

-- what there is still room for
abbrev pub decreases-loop-extent : goal.decreases-loop-extent
decreases-loop-extent l = 4096 - l.extent.count
