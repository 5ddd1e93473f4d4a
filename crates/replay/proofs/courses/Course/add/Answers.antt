use Rattle.replay.proofs.courses.Course.add.Goals as goal

pub returns-clause-few : goal.returns-clause-few
returns-clause-few c = rw (← c.self.view_is) c.commit.ensures.few
