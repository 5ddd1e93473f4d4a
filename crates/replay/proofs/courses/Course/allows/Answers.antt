use Rattle.fitting.proofs.Smalls.{doer_small}
use Rattle.fitting.proofs.Allowing.{allowed_told}
use Rattle.replay.proofs.courses.Course.allows.Goals as goal
use Rattle.replay.proofs.courses.Course.allows.Goals.{in-Some, in-None}

pub look-requires-clause-small : goal.look-requires-clause-small
look-requires-clause-small c =
    let h = c.self.invariant in
    let opened = rw (← c.self.view_is) at c.opens.ensures.0 c.if-not-opens.false in
    rw c.doer.ensures (doer_small h.sound h.small c.args.step opened)

pub returns-clause-told : goal.returns-clause-told
returns-clause-told c =
    let h = c.self.invariant in
    let opened = rw (← c.self.view_is) at c.opens.ensures.0 c.if-not-opens.false in
    elim c.match-self.branch [
      | in-Some w ↦
          let rows = rw (w.in-Some.is, c.doer.ensures) at c.look.ensures in
          rw (w.result-is, ← c.self.view_is) (allowed_told h.sound h.small rows.1 opened w.fits.ensures)
      | in-None w ↦ absurd (rw w.in-None.is at c.look.ensures)
    ]
