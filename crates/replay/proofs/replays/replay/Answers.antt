use Rattle.std.proofs.Common.{ap, ◌∙◌}
use Rattle.std.proofs.lemmas.Result.{err_from_is_err_and}
use Rattle.access.specs.Lists.{Lists}
use Rattle.session.specs.Models.{lists_of}
use Rattle.session.proofs.Readiness.{ready}
use Rattle.replay.specs.Replays.{declined, too_many, asked}
use Rattle.replay.proofs.Playing.{question_small}
use Rattle.replay.proofs.replays.replay.Goals as goal

pub returns-in_err-question : goal.returns-in_err-question
returns-in_err-question g c =
    let p = err_from_is_err_and c.from_residual.result c.from_residual.ensures.1 in
    let es = c.entities.ensures ∙ ap (λ (L : Lists). L.entities) c.load.ensures in
    rw (p.1, p.2) (declined (rw es at c.in_err-question.ensures))

pub returns-then-steps-gt4096 : goal.returns-then-steps-gt4096
returns-then-steps-gt4096 g c =
    let es = c.entities.ensures ∙ ap (λ (L : Lists). L.entities) c.load.ensures in
    too_many (rw es at c.in_ok-question.ensures.right) c.if-steps-gt4096.true

pub run_question-requires-clause-opener : goal.run_question-requires-clause-opener
run_question-requires-clause-opener g c =
    question_small {L = lists_of c.load.new.self} (ready c.load.new.self).sound (rw c.entities.ensures at c.in_ok-question.ensures)

pub returns : goal.returns
returns g c =
    let es = c.entities.ensures ∙ ap (λ (L : Lists). L.entities) c.load.ensures in
    let q = rw es at c.in_ok-question.ensures in
    asked q.right c.if-steps-gt4096.false (rw (q.account, q.sense, q.entity, c.load.ensures) at c.run_question.ensures)
