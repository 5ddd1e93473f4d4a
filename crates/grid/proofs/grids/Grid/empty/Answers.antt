use Rattle.order.proofs.RowLaws.{clear_rows}
use Rattle.grid.proofs.grids.Grid.empty.Goals as goal

pub returns : goal.returns
returns g c = clear_rows g.row.N
