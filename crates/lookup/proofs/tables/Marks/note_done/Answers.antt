use Rattle.std.proofs.Common.{arith}
use Rattle.access.specs.Numbers.{right_number}
use Rattle.lookup.specs.Tables.{slot_of}
use Rattle.lookup.proofs.Slots.{slot_small, entry_told, member_told, right_told}
use Rattle.lookup.proofs.Telling.{one_more}
use Rattle.lookup.proofs.tables.Marks.note_done.Goals as goal

pub returns-in-Call : goal.returns-in-Call
returns-in-Call c =
    rw c.in-Call.is
    (λ S h m. record {
      accounts = m.accounts;
      rights = m.rights;
      members = m.members;
      entries = λ n s.
          let put = rw (c.slot.ensures h.0) at c.put.ensures in
          one_more _ _ _ (put (slot_of n.object) n.account (slot_small n.object s.0) (omega arith)) (entry_told n c.in-Call.object c.args.account s.0 h.0) (m.entries n s);
    })

pub returns-in-Grant : goal.returns-in-Grant
returns-in-Grant c =
    rw c.in-Grant.is
    (λ S h m. record {
      accounts = m.accounts;
      rights = λ e r l. one_more _ _ _ (c.note_right.ensures e (right_number r) l) (right_told e r c.in-Grant.record) (m.rights e r l);
      members = m.members;
      entries = m.entries;
    })

pub returns-in-Join : goal.returns-in-Join
returns-in-Join c =
    rw c.in-Join.is
    (λ S h m. record {
      accounts = m.accounts;
      rights = m.rights;
      members = λ j s. one_more _ _ _ (c.put-in-Join.ensures j.role j.account (omega arith) (omega arith)) (member_told j c.in-Join.member) (m.members j s);
      entries = m.entries;
    })
