use Rattle.std.proofs.Common.{◌≡◌, length}
use Rattle.session.specs.Models.{lists_of}
use Rattle.survey.proofs.Rowing.{Filled}
use Rattle.survey.proofs.writing.row_of.Given as goal

abbrev pub invariant-loop-k : goal.invariant-loop-k
invariant-loop-k l = record { long : length l.row ≡ 96; filled : Filled (lists_of l.model) l.account l.k l.row }
