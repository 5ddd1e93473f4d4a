use Rattle.std.proofs.lemmas.Bool.Decides.{Decides-like}
use Rattle.runs.specs.Standing.{a_call, a_grant, a_join}
use Rattle.fitting.proofs.Deciding.{call_from, grant_from, join_from}
use Rattle.fitting.proofs.standing.is_proper.Goals as goal

pub returns-in-Call : goal.returns-in-Call
returns-in-Call c = rw c.in-Call.is (Decides-like _ a_call call_from c.is_object.ensures)

pub returns-in-Grant : goal.returns-in-Grant
returns-in-Grant c = rw c.in-Grant.is (Decides-like _ (λ p. a_grant p.0 p.1) grant_from c.grants_proper.ensures)

pub returns-in-Join : goal.returns-in-Join
returns-in-Join c = rw c.in-Join.is (Decides-like _ (λ p. a_join p.0 p.1) join_from c.joins_proper.ensures)
