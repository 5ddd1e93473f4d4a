use Rattle.std.proofs.Common.{refl, arith}
use Rattle.std.proofs.lemmas.Bool.Decides.{not_from_Decides}
use Rattle.witness.proofs.Trying.{tried_length, tried_shorter, tried_missed}
use Rattle.witness.proofs.plays.try_without.Goals as goal

pub returns-then-not-answers : goal.returns-then-not-answers
returns-then-not-answers c =
    let o = c.open-course.ensures in
    let p = rw c.deref.ensures.value at c.play_without.ensures in
    let no = not_from_Decides _ c.answers.ensures.told c.if-not-answers.true in
    record { missed = tried_missed c.args.question.now c.args.from c.args.count _ o.lists o.state o.steps p no; same = refl }

pub copy-requires : goal.copy-requires
copy-requires c =
    let o = c.open-course.ensures in
    let p = rw c.deref.ensures.value at c.play_without.ensures in
    let l = tried_length c.args.question.now c.args.from c.args.count _ o.lists o.state o.steps p (omega arith) in
    rw (c.steps.ensures, c.answers.ensures.same) (omega (arith, l))

pub returns : goal.returns
returns c =
    let o = c.open-course.ensures in
    let p = rw c.deref.ensures.value at c.play_without.ensures in
    let held = c.answers.ensures.told.0 c.if-not-answers.false in
    let s = tried_shorter c.args.question.now c.args.from c.args.count _ o.lists o.state o.steps p (omega arith) c.requires.comes held in
    rw (c.copy.ensures, c.steps.ensures, c.answers.ensures.same) s
