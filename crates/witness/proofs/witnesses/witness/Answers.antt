use Rattle.std.proofs.Common.{ap, ◌∙◌, refl}
use Rattle.std.proofs.lemmas.Result.{err_from_is_err_and}
use Rattle.access.specs.Lists.{Lists}
use Rattle.replay.proofs.Playing.{question_account}
use Rattle.witness.specs.Witnesses.{declined, no_room, missing}
use Rattle.witness.proofs.Giving.{handed}
use Rattle.witness.proofs.witnesses.witness.Goals as goal

pub returns-in_err-question-clause-answer : goal.returns-in_err-question-clause-answer
returns-in_err-question-clause-answer g c =
    let p = err_from_is_err_and c.from_residual.result c.from_residual.ensures.1 in
    let es = c.entities.ensures ∙ ap (λ (L : Lists). L.entities) c.load.ensures in
    rw (p.1, p.2) (declined (rw es at c.in_err-question.ensures) refl)

pub returns-then-room-lt-STEPS-clause-answer : goal.returns-then-room-lt-STEPS-clause-answer
returns-then-room-lt-STEPS-clause-answer g c =
    let es = c.entities.ensures ∙ ap (λ (L : Lists). L.entities) c.load.ensures in
    no_room (rw es at c.in_ok-question.ensures.right) c.if-room-lt-STEPS.true refl

pub find-found-requires : goal.find-found-requires
find-found-requires g c = question_account (rw c.entities.ensures at c.in_ok-question.ensures)

pub returns-then-not-found-clause-answer : goal.returns-then-not-found-clause-answer
returns-then-not-found-clause-answer g c =
    let es = c.entities.ensures ∙ ap (λ (L : Lists). L.entities) c.load.ensures in
    let q = rw es at c.in_ok-question.ensures in
    let none = rw (q.account, q.sense, q.entity, c.load.ensures) at c.if-not-found.ensures in
    missing q.right c.if-room-lt-STEPS.false none refl

pub returns-clause-answer : goal.returns-clause-answer
returns-clause-answer g c =
    let es = c.entities.ensures ∙ ap (λ (L : Lists). L.entities) c.load.ensures in
    let f = rw c.load.ensures at c.if-not-found.ensures in
    let e = c.put.ensures in
    handed _ (rw es at c.in_ok-question.ensures) c.if-room-lt-STEPS.false f.comes f.lean f.few e.count e.list e.rest e.length
