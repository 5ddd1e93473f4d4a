use Rattle.std.proofs.lemmas.Bool.Decides.{not_from_Decides}
use Rattle.fitting.proofs.Deciding.{join_from}
use Rattle.saturation.proofs.stepping.joins_in.Goals as goal
use Rattle.saturation.proofs.stepping.joins_in.Goals.{else-is_kind-via-then-is_kind+else-holds, else-is_kind-via-else-is_kind}

pub returns-else-is_kind-clause-added : goal.returns-else-is_kind-clause-added
returns-else-is_kind-clause-added c v h =
    record {
      part = λ o f. elim c.else-is_kind.branch [
        | else-is_kind-via-then-is_kind+else-holds w ↦ absurd (not_from_Decides _ w.holds.ensures w.if-holds.false f.1)
        | else-is_kind-via-else-is_kind w ↦ absurd (not_from_Decides _ c.is_kind.ensures w.if-is_kind.false (rw (← c.actor.view_is) at (join_from f.0).1))
      ];
    }
