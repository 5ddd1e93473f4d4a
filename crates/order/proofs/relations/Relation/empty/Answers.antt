use Rattle.access.proofs.SetLaws.{bit_zero}
use Rattle.order.proofs.RowLaws.{clear_rows}
use Rattle.order.proofs.relations.Relation.empty.Goals as goal

pub returns : goal.returns
returns c = record { elements = bit_zero; rows = clear_rows 96 }
