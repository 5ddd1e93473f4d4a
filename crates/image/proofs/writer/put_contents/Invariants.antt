use Rattle.std.proofs.Common.{◌+◌, ◌*◌, ◌≤◌, drop}
use Rattle.book.specs.Meaning.{lists_of}
use Rattle.image.specs.Layout.{in_order}
use Rattle.image.specs.Encoding.{contents, entries_from}
use Rattle.image.proofs.Writing.{Filled}
use Rattle.image.proofs.writer.put_contents.Given as goal

abbrev pub invariant-loop-i : goal.invariant-loop-i
invariant-loop-i l =
    Filled (contents (lists_of l.book)) l.room (l.i * 4) (entries_from (lists_of l.book) l.start (drop l.i in_order))
    × (l.start ≤ 20 + 1792 * l.i)
