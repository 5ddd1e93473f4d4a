use Rattle.std.proofs.Common.{◌≡◌, drop}
use Rattle.image.specs.Reading.{end_after}
use Rattle.image.proofs.contents.contents_end.Given as goal

abbrev pub invariant-loop-list : goal.invariant-loop-list
invariant-loop-list l = end_after l.bytes (drop l.list-index l.list-items) l.end ≡ end_after l.bytes l.list-items 20
