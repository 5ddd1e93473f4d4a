use Rattle.access.proofs.SetLaws.{bit_full}
use Rattle.access.proofs.sets.RightSet.full.Goals as goal

pub returns : goal.returns
returns c = bit_full
