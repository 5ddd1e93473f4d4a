use Rattle.std.proofs.Common.{◌∙◌}
use Rattle.std.proofs.lemmas.Bool.Decides.{not_from_Decides}
use Rattle.replay.specs.Replays.{stopped, missing, accepted}
use Rattle.replay.proofs.Playing.{comes_to, comes_from}
use Rattle.replay.proofs.replays.run_question.Goals as goal

pub returns-in-Some : goal.returns-in-Some
returns-in-Some c = stopped (rw (c.open-course.ensures.state, c.open-course.ensures.lists) at c.in-Some.ensures.outcome)

pub returns-then-answers : goal.returns-then-answers
returns-then-answers c =
    let o = c.open-course.ensures in
    let run = rw (o.state, o.lists) at c.in_default.ensures.outcome in
    accepted (comes_to _ _ run (c.play.ensures.lists ∙ o.lists) _ (c.answers.ensures.told.0 c.if-answers.true))

pub returns-else-answers : goal.returns-else-answers
returns-else-answers c =
    let o = c.open-course.ensures in
    let run = rw (o.state, o.lists) at c.in_default.ensures.outcome in
    missing run (λ q. not_from_Decides _ c.answers.ensures.told c.if-answers.false (comes_from _ _ run (c.play.ensures.lists ∙ o.lists) _ q))
