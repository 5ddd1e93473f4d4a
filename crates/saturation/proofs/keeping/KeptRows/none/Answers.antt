use Rattle.saturation.proofs.Onwards.{keeps_start}
use Rattle.saturation.proofs.keeping.KeptRows.none.Goals as goal

pub returns : goal.returns
returns c L a = keeps_start L a 96 _ c.empty.ensures
