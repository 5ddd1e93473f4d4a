use Rattle.std.proofs.Common.{arith}
use Rattle.std.proofs.lemmas.Bool.Decides.{Decides-eqb}
use Rattle.access.specs.Numbers.{right_number}
use Rattle.lookup.specs.Records.{opens, joins}
use Rattle.lookup.specs.Tables.{slot_of}
use Rattle.lookup.proofs.Slots.{member_told, right_told}
use Rattle.lookup.proofs.Telling.{none_told, one_more, listed}
use Rattle.lookup.proofs.tables.Marks.open.Goals as goal

pub returns : goal.returns
returns c L p q = record {
  accounts = λ v l. one_more _ _ _ (c.put.ensures 0 v (omega arith) (omega arith)) (Decides-eqb v c.args.account) (none_told _ (c.empty.ensures 0 v));
  rights = λ e r l. rw p (listed (opens e (right_number r)) _ _ _ _ (c.empty-2.ensures e (right_number r)) (c.note_rights.ensures e (right_number r) l) (right_told e r));
  members = λ j s. rw q (listed (joins j.role j.account) _ _ _ _ (c.empty-3.ensures j.role j.account) (c.note_members.ensures j.role j.account s.1 s.0) (member_told j));
  entries = λ n s. none_told _ (c.empty-4.ensures (slot_of n.object) n.account);
}
