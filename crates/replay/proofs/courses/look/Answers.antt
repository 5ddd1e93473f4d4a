use Rattle.std.proofs.Common.{refl}
use Rattle.session.specs.Models.{lists_of}
use Rattle.fitting.proofs.Allowing.{recorded}
use Rattle.replay.proofs.courses.look.Goals as goal

pub returns : goal.returns
returns c =
    let all = rw (c.deref.ensures.value, c.deref-2.ensures.value) at c.rows-rows.ensures in
    (refl, all _ (recorded (lists_of c.args.model.now) c.args.state.now))
