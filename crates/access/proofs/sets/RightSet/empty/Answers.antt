use Rattle.access.proofs.SetLaws.{bit_zero}
use Rattle.access.proofs.sets.RightSet.empty.Goals as goal

pub returns : goal.returns
returns c = bit_zero
