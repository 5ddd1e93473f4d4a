use Rattle.std.proofs.lemmas.Bool.Decides.{not_from_Decides}
use Rattle.saturation.proofs.Sweeps.{began_idle}
use Rattle.saturation.proofs.sweeping.turn_of.Goals as goal

pub turn-requires-clause-acted : goal.turn-requires-clause-acted
turn-requires-clause-acted c = (c.acts.ensures _ c.requires.goes).0 c.if-acts.true

pub returns-else-acts-clause-began : goal.returns-else-acts-clause-began
returns-else-acts-clause-began c = began_idle (not_from_Decides _ (c.acts.ensures _ c.requires.goes) c.if-acts.false)
