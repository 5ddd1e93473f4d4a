use Rattle.std.proofs.Common.{◌≡◌, ◌<◌, true}
use Rattle.access.specs.declared.code.Object.{Object}
use Rattle.access.specs.Bits.{bit}
use Rattle.access.specs.Places.{place_of}
use Rattle.lookup.specs.Tables.{sort_number}
use Rattle.extent.specs.Tests.{entry}
use Rattle.extent.proofs.extents.Extent.entered_in.Given as goal

-- no object of the sorts before this one was entered in the places
abbrev pub invariant-loop-sort : goal.invariant-loop-sort
invariant-loop-sort l = (x : Object) → sort_number x < l.sort → entry l.self x l.account ≡ true → bit l.places (place_of x) ≡ true → ⊥
