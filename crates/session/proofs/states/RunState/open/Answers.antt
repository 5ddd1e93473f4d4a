use Rattle.std.proofs.Common.{sym}
use Rattle.session.specs.Models.{lists_of}
use Rattle.session.proofs.states.RunState.open.Goals as goal

pub returns-clause-marked : goal.returns-clause-marked
returns-clause-marked c = c.open-self.ensures (lists_of c.args.model.now) (sym c.rights.ensures) (sym c.members.ensures)
