use Rattle.session.specs.Models.{lists_of}
use Rattle.session.proofs.Readiness.{ready}
use Rattle.fitting.proofs.Smalls.{start_small}
use Rattle.replay.proofs.courses.Course.open.Goals as goal

pub invariant_of-result : goal.invariant_of-result
invariant_of-result c =
    let L = lists_of c.args.model.now in
    record { sound = (ready c.args.model.now).sound; small = rw (c.open.ensures.state L) (start_small L c.args.account c.requires); kept = tt }

pub returns-clause-state : goal.returns-clause-state
returns-clause-state c = c.open.ensures.state (lists_of c.args.model.now)
