use Rattle.session.specs.Models.{lists_of}
use Rattle.extent.specs.Shows.{Came}
use Rattle.extent.specs.Growth.{Grown}
use Rattle.extent.proofs.extents.Extent.follow_back.Given as goal

abbrev pub invariant-loop-i : goal.invariant-loop-i
invariant-loop-i l = record { came : Came (lists_of l.model) l.self; grown : Grown l.initial.self l.self }
