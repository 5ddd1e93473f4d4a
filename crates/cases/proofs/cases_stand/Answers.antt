use Rattle.cases.proofs.Cases.{each_case}
use Rattle.cases.proofs.cases_stand.Goals as goal

pub returns : goal.returns
returns c = each_case
