use Rattle.replay.proofs.courses.Course.answers.Goals as goal

pub returns-in-Hold-clause-told : goal.returns-in-Hold-clause-told
returns-in-Hold-clause-told c = rw c.in-Hold.is c.holds.ensures.told
