use Rattle.std.proofs.Common.{◌&&◌, ltb, take}
use Rattle.lookup.specs.Records.{Adds}
use Rattle.session.specs.Marks.{owned}
use Rattle.session.proofs.marks.add_owned.Given as goal

abbrev pub invariant-loop-i : goal.invariant-loop-i
invariant-loop-i l =
    Adds l.initial.row.sets l.row.sets (λ x k. owned l.who.sets (take l.i l.entities) x && ltb k 7)
