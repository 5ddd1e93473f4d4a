use Rattle.fitting.proofs.Allowing.{holds_told}
use Rattle.replay.proofs.courses.Course.holds.Goals as goal
use Rattle.replay.proofs.courses.Course.holds.Goals.{in-Some, in-None}

pub returns-clause-told : goal.returns-clause-told
returns-clause-told c =
    elim c.match-self.branch [
      | in-Some w ↦
          let rows = rw w.in-Some.is at c.look.ensures in
          rw (w.result-is, ← c.self.view_is) (holds_told c.self.invariant.sound rows.1 w.tells.ensures)
      | in-None w ↦ absurd (rw w.in-None.is at c.look.ensures)
    ]
