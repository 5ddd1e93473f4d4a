use Rattle.std.proofs.Common.{◌≡◌, drop}
use Rattle.book.specs.Meaning.{lists_of}
use Rattle.image.specs.Reading.{built_parts}
use Rattle.image.proofs.bodies.read_bodies.Given as goal

abbrev pub invariant-loop-list : goal.invariant-loop-list
invariant-loop-list l = built_parts l.contents.bytes.now (drop l.list-index l.list-items) (lists_of l.book) ≡ built_parts l.contents.bytes.now l.list-items (lists_of l.initial.book)
