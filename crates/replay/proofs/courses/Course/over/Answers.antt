use Rattle.session.proofs.Readiness.{ready}
use Rattle.replay.proofs.courses.Course.over.Goals as goal

pub invariant_of-result : goal.invariant_of-result
invariant_of-result c = record { sound = (ready c.args.model.now).sound; small = c.requires; kept = tt }
