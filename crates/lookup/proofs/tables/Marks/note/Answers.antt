use Rattle.std.proofs.Common.{arith}
use Rattle.std.proofs.lemmas.Bool.Decides.{Decides-eqb}
use Rattle.lookup.proofs.Telling.{one_more}
use Rattle.lookup.proofs.tables.Marks.note.Goals as goal

pub returns-in-Switch : goal.returns-in-Switch
returns-in-Switch c =
    rw c.in-Switch.is
    (λ S h m. record {
      accounts = λ v l. one_more _ _ _ (c.put.ensures 0 v (omega arith) (omega arith)) (Decides-eqb v c.in-Switch.to) (m.accounts v l);
      rights = m.rights;
      members = m.members;
      entries = m.entries;
    })
