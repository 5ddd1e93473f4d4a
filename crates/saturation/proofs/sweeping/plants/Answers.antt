use Rattle.saturation.proofs.Going.{grown_trans}
use Rattle.saturation.proofs.Staying.{serves_more}
use Rattle.saturation.proofs.sweeping.plants.Goals as goal

pub lends-requires-clause-serves : goal.lends-requires-clause-serves
lends-requires-clause-serves c = serves_more c.requires.serves c.takes.ensures.grown

pub returns-clause-grown : goal.returns-clause-grown
returns-clause-grown c = grown_trans c.takes.ensures.grown c.lends.ensures.grown
