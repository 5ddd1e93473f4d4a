use Rattle.std.proofs.Common.{List, ◌++◌}
use Rattle.access.specs.declared.rights.RightRecord.{RightRecord}
use Rattle.access.specs.declared.roles.Member.{Member}
use Rattle.access.specs.Sets.{told}
use Rattle.session.specs.Models.{lists_of}
use Rattle.session.proofs.Readiness.{ready}
use Rattle.session.proofs.Rowing.{holds_told, grants_told, rowed_any}
use Rattle.session.proofs.models.Model.rows.Goals as goal

pub returns : goal.returns
returns c S k =
    let m = c.args.self.now in
    let L = lists_of m in
    let gs : List RightRecord = L.rights ++ c.args.grants.now in
    let ms : List Member = L.members ++ c.args.joins.now in
    let a = c.args.account in
    let who = c.who-who.result.sets in
    let own = told c.owned-own.result.sets in
    rowed_any L a _ _ _ S (record { rights = k.all_rights; members = k.all_members }) (record { rights = k.rights; members = k.members })
    (record {
      holds = holds_told L ms a who c.who-who.ensures (ready m).sound gs own c.owned-own.ensures (told c.held.result.sets) c.held.ensures;
      grants = grants_told L ms a who c.who-who.ensures (ready m).sound gs own c.owned-own.ensures (told c.grantable.result.sets) c.grantable.ensures;
    })
