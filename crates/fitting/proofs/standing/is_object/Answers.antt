use Rattle.std.proofs.lemmas.Bool.Decides.{Decides-like}
use Rattle.runs.specs.Standing.{a_procedure, a_trigger}
use Rattle.fitting.proofs.Deciding.{procedure_from, trigger_from, created_to, created_from}
use Rattle.fitting.proofs.standing.is_object.Goals as goal

pub returns-in-Procedure : goal.returns-in-Procedure
returns-in-Procedure c = rw c.in-Procedure.is (Decides-like _ a_procedure procedure_from c.is_kind.ensures)

pub returns-in-Triggers : goal.returns-in-Triggers
returns-in-Triggers c = rw c.in-Triggers.is (Decides-like _ a_trigger trigger_from c.is_kind-in-Triggers.ensures)

pub returns-in-Created : goal.returns-in-Created
returns-in-Created c = rw c.in-Created.is (Decides-like _ created_to created_from c.is_parent.ensures)
