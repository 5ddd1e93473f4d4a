use Rattle.std.proofs.Common.{refl}
use Rattle.std.proofs.lemmas.Bool.Decides.{not_from_Decides}
use Rattle.session.proofs.Readiness.{ready}
use Rattle.fitting.proofs.Smalls.{is_small, opened_small}
use Rattle.replay.proofs.Playing.{comes_to}
use Rattle.witness.proofs.Giving.{comes_held}
use Rattle.witness.proofs.witnesses.find.Goals as goal

pub over-course-requires : goal.over-course-requires
over-course-requires c = opened_small (ready c.args.model.now).sound c.requires c.saturate.ensures.run

pub answers-requires : goal.answers-requires
answers-requires c = record { opener = is_small (ready c.args.model.now).sound c.requires }

pub returns-then-not-answers : goal.returns-then-not-answers
returns-then-not-answers c steps m =
    let o = c.over-course.ensures in
    let told = rw (o.lists, o.came) at c.answers.ensures.told in
    not_from_Decides _ told c.if-not-answers.true (comes_held _ _ steps c.saturate.ensures.tells _ m)

pub shorten-requires-clause-opener : goal.shorten-requires-clause-opener
shorten-requires-clause-opener c = is_small (ready c.args.model.now).sound c.requires

pub shorten-requires-clause-comes : goal.shorten-requires-clause-comes
shorten-requires-clause-comes c =
    let o = c.over-course.ensures in
    let told = rw (o.lists, o.came) at c.answers.ensures.told in
    let comes = comes_to c.args.question.now.entity c.args.question.now.right c.saturate.ensures.run refl _ (told.0 c.if-not-answers.false) in
    rw (c.copy.ensures, c.steps.ensures, c.answers.ensures.same, o.came) comes
