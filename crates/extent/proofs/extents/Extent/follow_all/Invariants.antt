use Rattle.std.proofs.Common.{◌-◌}
use Rattle.session.specs.Models.{lists_of}
use Rattle.extent.specs.Shows.{Came}
use Rattle.extent.specs.Growth.{Grown}
use Rattle.extent.proofs.extents.Extent.follow_all.Given as goal

abbrev pub invariant-loop-self : goal.invariant-loop-self
invariant-loop-self l = record { came : Came (lists_of l.model) l.self; grown : Grown l.initial.self l.self }

-- what there is still room for
abbrev pub decreases-loop-self : goal.decreases-loop-self
decreases-loop-self l = 4096 - l.self.count
