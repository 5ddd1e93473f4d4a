use Rattle.std.proofs.Common.{drop}
use Rattle.std.specs.List.{flat_map}
use Rattle.book.specs.Meaning.{lists_of}
use Rattle.image.specs.Encoding.{body_of, bodies}
use Rattle.image.proofs.Writing.{Filled}
use Rattle.image.proofs.writer.put_bodies.Given as goal

abbrev pub invariant-loop-list : goal.invariant-loop-list
invariant-loop-list l = Filled (bodies (lists_of l.book)) l.room l.start (flat_map (body_of (lists_of l.book)) (drop l.list-index l.list-items))
