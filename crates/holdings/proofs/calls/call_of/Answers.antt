use Rattle.std.proofs.Common.{arith}
use Rattle.session.proofs.Readiness.{ready}
use Rattle.runs.proofs.Grounds.{line_objects}
use Rattle.holdings.proofs.Calling.{called_object, runner_account}
use Rattle.fitting.proofs.Smalls.{is_small, object_small}
use Rattle.holdings.proofs.calls.call_of.Goals as goal

pub call_to-requires-clause-small : goal.call_to-requires-clause-small
call_to-requires-clause-small c =
    let sound = (ready c.args.model.now).sound in
    let l = c.args.line in
    (object_small sound (line_objects _ sound l c.requires), object_small sound (called_object sound l c.requires c.in-Call.called c.in-Call.is))

pub call_to-requires-clause-runner : goal.call_to-requires-clause-runner
call_to-requires-clause-runner c w e =
    let sound = (ready c.args.model.now).sound in
    omega (arith, is_small sound (runner_account sound c.args.line c.requires w e))
