use Rattle.lookup.proofs.Adding.{call_told, grant_told, join_told}
use Rattle.lookup.proofs.Slots.{opened}
use Rattle.lookup.proofs.tables.Marks.has_done.Goals as goal

pub returns-in-Call : goal.returns-in-Call
returns-in-Call c = rw c.in-Call.is (λ S h k m. call_told S _ c.in-Call.object c.args.account (c.entered.ensures S h m))

pub returns-in-Grant : goal.returns-in-Grant
returns-in-Grant c =
    let g = c.in-Grant.record in
    rw c.in-Grant.is (λ S h k m. grant_told S _ g c.args.account (rw (opened g k.0 k.1) at (c.has_right.ensures S h m)))

pub returns-in-Join : goal.returns-in-Join
returns-in-Join c = rw c.in-Join.is (λ S h k m. join_told S _ c.in-Join.member c.args.account (c.has_member.ensures S h m))
