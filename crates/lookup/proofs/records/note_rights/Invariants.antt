use Rattle.std.proofs.Common.{take}
use Rattle.std.specs.List.{list_any}
use Rattle.lookup.specs.Records.{Adds}
use Rattle.lookup.specs.Records.{opens}
use Rattle.lookup.proofs.records.note_rights.Given as goal

abbrev pub invariant-loop-g : goal.invariant-loop-g
invariant-loop-g l =
    Adds l.initial.rights.sets l.rights.sets (λ e k. list_any (opens e k) (take l.g-index l.records))
