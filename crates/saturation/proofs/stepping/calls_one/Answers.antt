use Rattle.std.proofs.lemmas.Bool.Decides.{not_from_Decides}
use Rattle.saturation.proofs.Gaining.{enters_already}
use Rattle.runs.specs.Turns.{Tried}
use Rattle.saturation.proofs.stepping.calls_one.Goals as goal
use Rattle.saturation.proofs.stepping.calls_one.Goals.{else-enters-via-then-enters+else-not-is_entered, else-enters-via-else-enters}

pub attempt-requires-clause-tried : goal.attempt-requires-clause-tried
attempt-requires-clause-tried c = Tried.call

pub returns-else-enters-clause-added : goal.returns-else-enters-clause-added
returns-else-enters-clause-added c =
    record {
      part = λ o f. elim c.else-enters.branch [
        | else-enters-via-then-enters+else-not-is_entered w ↦ enters_already ((w.is_entered.ensures _ c.requires.goes).0 w.if-not-is_entered.false)
        | else-enters-via-else-enters w ↦ absurd (not_from_Decides _ c.enters.ensures w.if-enters.false f.1)
      ];
    }
