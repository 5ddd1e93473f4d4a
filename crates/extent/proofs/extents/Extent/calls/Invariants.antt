use Rattle.std.proofs.Common.{◌≡◌, ◌<◌, true}
use Rattle.access.specs.declared.code.Object.{Object}
use Rattle.access.specs.Numbers.{right_number}
use Rattle.access.specs.Places.{place_of}
use Rattle.lookup.specs.Tables.{sort_number}
use Rattle.runs.specs.Standing.{IsObject, entry_right}
use Rattle.session.specs.Models.{lists_of}
use Rattle.extent.specs.Tests.{held, entry}
use Rattle.extent.specs.Shows.{Came}
use Rattle.extent.specs.Growth.{Grown}
use Rattle.extent.proofs.extents.Extent.calls.Given as goal

-- the objects of the sorts so far are entered
abbrev pub invariant-loop-sort : goal.invariant-loop-sort
invariant-loop-sort l = record {
  came : Came (lists_of l.model) l.self;
  grown : Grown l.initial.self l.self;
  entered : (x : Object) → IsObject (lists_of l.model) x → sort_number x < l.sort
      → held l.tables l.initial.self l.account (right_number (entry_right x)) (place_of x) ≡ true → entry l.self x l.account ≡ true;
}
