use Rattle.std.proofs.lemmas.Bool.{both_ways}
use Rattle.std.proofs.lemmas.Bool.Decides.{not_from_Decides}
use Rattle.saturation.proofs.Standing.{peopled}
use Rattle.saturation.proofs.taking.takes_if.Goals as goal
use Rattle.saturation.proofs.taking.takes_if.Goals.{else-has_objects-via-then-has_objects+else-holds, else-has_objects-via-else-has_objects}

pub returns-else-has_objects-clause-taken : goal.returns-else-has_objects-clause-taken
returns-else-has_objects-clause-taken c n m e =
    elim c.else-has_objects.branch [
      | else-has_objects-via-then-has_objects+else-holds w ↦ record { is = λ t. absurd (not_from_Decides _ w.holds.ensures w.if-holds.false (rw e at t)) }
      | else-has_objects-via-else-has_objects w ↦
          let o = ((peopled c.requires.serves.goes.ran).entered n m).0 in
          absurd (both_ways _ w.if-has_objects.false (c.has_objects.ensures n.object e (rw (← c.actor.view_is) at o)))
    ]
