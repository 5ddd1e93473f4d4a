use Rattle.std.proofs.Common.{◌≡◌, ◌<◌, true}
use Rattle.access.specs.declared.code.Object.{Object}
use Rattle.access.specs.Bits.{bit}
use Rattle.access.specs.Places.{place_of}
use Rattle.lookup.specs.Tables.{sort_number}
use Rattle.runs.specs.Standing.{IsObject}
use Rattle.session.specs.Models.{lists_of}
use Rattle.extent.specs.Shows.{Came}
use Rattle.extent.specs.Growth.{Grown}
use Rattle.extent.specs.Tests.{entry}
use Rattle.extent.proofs.extents.Extent.lend_to.Given as goal

-- the objects of the sorts before this one are entered
abbrev pub invariant-loop-sort : goal.invariant-loop-sort
invariant-loop-sort l = record {
  came : Came (lists_of l.model) l.self;
  grown : Grown l.initial.self l.self;
  there : (x : Object) → sort_number x < l.sort → IsObject (lists_of l.model) x → bit l.places (place_of x) ≡ true → entry l.self x l.account ≡ true;
}
