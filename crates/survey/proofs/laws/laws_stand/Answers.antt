use Rattle.survey.proofs.Telling.{one_row, rows_tell_acting}
use Rattle.survey.proofs.laws.laws_stand.Goals as goal

pub returns : goal.returns
returns c = record { one = one_row; acting = rows_tell_acting }
