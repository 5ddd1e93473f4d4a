use Rattle.std.proofs.Common.{refl, arith, below_more}
use Rattle.std.proofs.lemmas.Bool.Decides.{not_from_Decides}
use Rattle.fitting.proofs.Deciding.{told, not_told}
use Rattle.replay.proofs.courses.Course.some_holds.Goals as goal
use Rattle.replay.proofs.courses.Course.some_holds.Goals.{else-acts-via-then-acts+else-holds, else-acts-via-else-acts}

pub returns-then-holds-clause-told : goal.returns-then-holds-clause-told
returns-then-holds-clause-told c =
    rw (← c.loop-v.invariant.same)
    (told refl (c.loop-v.v, c.acts.ensures.0 c.if-acts.true, c.holds.ensures.told.0 c.if-holds.true))

pub loop-v-preserved : goal.loop-v-preserved
loop-v-preserved c =
    let h = c.loop-v.invariant in
    elim c.else-acts.branch [
      | else-acts-via-then-acts+else-holds w ↦ rw (w.self-is, w.holds.ensures.same)
          (record { same = h.same; none = below_more _ _ h.none (λ m. not_from_Decides _ w.holds.ensures.told w.if-holds.false) })
      | else-acts-via-else-acts w ↦ rw w.self-is
          (record { same = h.same; none = below_more _ _ h.none (λ m p. not_from_Decides _ c.acts.ensures w.if-acts.false m) })
    ]

pub returns-clause-told : goal.returns-clause-told
returns-clause-told c =
    let none = rw (c.loop-v.invariant.same, ← c.self.view_is) at c.loop-v.invariant.none in
    rw (← c.self.view_is) (not_told refl (λ h. let small = c.self.invariant.small.acted h.0 h.1 in none h.0 (omega arith) h.1 h.2))
