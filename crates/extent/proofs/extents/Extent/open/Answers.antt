use Rattle.access.proofs.SetLaws.{bit_zero}
use Rattle.extent.proofs.Closing.{open_came}
use Rattle.extent.proofs.extents.Extent.open.Goals as goal

pub returns-clause-came : goal.returns-clause-came
returns-clause-came c L s t i =
    open_came s t i c.bit_of.result c.empty.result.rows c.empty-2.result.rows c.empty-3.result.rows c.empty-4.result.rows 0 0
    c.bit_of.ensures bit_zero bit_zero c.empty.ensures c.empty-2.ensures c.empty-3.ensures c.empty-4.ensures
