use Rattle.holdings.proofs.Rowing.{row_given}
use Rattle.holdings.proofs.powers.Powers.give.Goals as goal

pub returns-clause-holds : goal.returns-clause-holds
returns-clause-holds c p j e h = row_given p c.args.principal j c.args.k _ _ _ h c.requires (c.add.ensures _ e)

pub returns-clause-grants : goal.returns-clause-grants
returns-clause-grants c p j e h = row_given p c.args.principal j c.args.k _ _ _ h c.requires (c.add-2.ensures _ e)
