use Rattle.std.proofs.Common.{take}
use Rattle.std.specs.List.{list_any}
use Rattle.lookup.specs.Records.{Adds}
use Rattle.session.specs.Marks.{marks_role}
use Rattle.session.proofs.marks.mark_roles.Given as goal

abbrev pub invariant-loop-m : goal.invariant-loop-m
invariant-loop-m l =
    Adds l.initial.row.sets l.row.sets (λ x k. list_any (marks_role l.account x k) (take l.m-index l.members))
