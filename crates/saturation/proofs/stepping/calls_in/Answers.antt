use Rattle.std.proofs.lemmas.Bool.{both_ways}
use Rattle.saturation.proofs.stepping.calls_in.Goals as goal
use Rattle.saturation.proofs.stepping.calls_in.Goals.{else-holds_any-via-then-holds_any+else-has_objects, else-holds_any-via-else-holds_any}

pub returns-else-holds_any-clause-added : goal.returns-else-holds_any-clause-added
returns-else-holds_any-clause-added c x e =
    record {
      part = λ o f. elim c.else-holds_any.branch [
        | else-holds_any-via-then-holds_any+else-has_objects w ↦ absurd (both_ways _ w.if-has_objects.false (w.has_objects.ensures x e (rw (← c.actor.view_is) at f.0)))
        | else-holds_any-via-else-holds_any w ↦ absurd (both_ways _ w.if-holds_any.false (c.holds_any.ensures _ (rw e at f.1)))
      ];
    }
