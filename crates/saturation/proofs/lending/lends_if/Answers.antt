use Rattle.std.proofs.lemmas.Bool.{both_ways}
use Rattle.std.proofs.lemmas.Bool.Decides.{not_from_Decides}
use Rattle.saturation.proofs.lending.lends_if.Goals as goal
use Rattle.saturation.proofs.lending.lends_if.Goals.{else-has_objects-via-then-has_objects+else-owner_is_in, else-has_objects-via-else-has_objects}

pub returns-else-has_objects-clause-lent : goal.returns-else-has_objects-clause-lent
returns-else-has_objects-clause-lent c x n u e h d l m =
    elim c.else-has_objects.branch [
      | else-has_objects-via-then-has_objects+else-owner_is_in w ↦ absurd (not_from_Decides _ w.owner_is_in.ensures w.if-owner_is_in.false (rw (← c.actor.view_is) at h))
      | else-has_objects-via-else-has_objects w ↦
          record { is = λ _ o. absurd (both_ways _ w.if-has_objects.false (c.has_objects.ensures x e (rw (← c.actor.view_is) at o))) }
    ]
