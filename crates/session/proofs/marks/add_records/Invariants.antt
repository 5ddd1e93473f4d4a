use Rattle.std.proofs.Common.{take}
use Rattle.std.specs.List.{list_any}
use Rattle.lookup.specs.Records.{Adds}
use Rattle.session.specs.Marks.{gives_right}
use Rattle.session.proofs.marks.add_records.Given as goal

abbrev pub invariant-loop-g : goal.invariant-loop-g
invariant-loop-g l =
    Adds l.initial.row.sets l.row.sets (λ x k. list_any (gives_right l.who.sets l.option x k) (take l.g-index l.records))
