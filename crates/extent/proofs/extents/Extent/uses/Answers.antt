use Rattle.extent.proofs.Using.{used, used_small}
use Rattle.extent.proofs.extents.Extent.uses.Goals as goal

pub returns-clause-uses : goal.returns-clause-uses
returns-clause-uses c L a e r s t z n = used t z e c.args.k c.held_by_any.result r n (c.held_by_any.ensures e)

pub returns-clause-small : goal.returns-clause-small
returns-clause-small c L a e s t z b = used_small s t z e c.args.k c.requires ((c.held_by_any.ensures e).0 b)
