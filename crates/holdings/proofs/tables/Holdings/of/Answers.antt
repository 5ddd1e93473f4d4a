use Rattle.std.proofs.Common.{List, subst, ap, ◌∙◌}
use Rattle.access.specs.declared.entities.Entity.{Entity}
use Rattle.access.specs.declared.rights.RightRecord.{RightRecord}
use Rattle.access.specs.declared.roles.Member.{Member}
use Rattle.session.specs.Models.{lists_of}
use Rattle.session.proofs.Readiness.{ready}
use Rattle.holdings.specs.declared.tables.Holdings.{Holdings}
use Rattle.holdings.specs.Giving.{is_object}
use Rattle.holdings.proofs.Entering.{object_there}
use Rattle.holdings.proofs.Inside.{few_entities}
use Rattle.holdings.proofs.Made.{Made, told_of}
use Rattle.holdings.proofs.tables.Holdings.of.Goals as goal

pub of_kind-accounts-requires : goal.of_kind-accounts-requires
of_kind-accounts-requires c = few_entities c.args.model.now _ c.entities-entities.ensures

pub of_kind-requires : goal.of_kind-requires
of_kind-requires c = few_entities c.args.model.now _ c.entities-entities.ensures

pub objects-objects-requires : goal.objects-objects-requires
objects-objects-requires c = few_entities c.args.model.now _ c.entities-entities.ensures

pub owned-requires : goal.owned-requires
owned-requires c = few_entities c.args.model.now _ c.entities-entities.ensures

pub enterers-requires : goal.enterers-requires
enterers-requires c x t =
    let m = c.args.model.now in
    object_there (lists_of m) (ready m).sound x _ (c.objects-objects.ensures x ∙ ap (λ (es : List Entity). is_object es x) c.entities-entities.ensures) t

pub returns : goal.returns
returns c =
    let m = c.args.model.now in
    let L = lists_of m in
    let own = c.own-own.result in
    let h : Holdings = record {
      accounts = c.of_kind-accounts.result;
      roles = c.of_kind.result;
      objects = c.objects-objects.result;
      within = c.within-within.result;
      owned = c.owned.result;
      owners = c.owners.result;
      given = c.given.result;
      of_accounts = c.of_accounts-of_accounts.result;
      of_roles = c.of_roles-of_roles.result;
      enterers = c.enterers.result;
      calls = c.calls.result;
    } in
    let es = c.entities-entities.result.now in
    let rs = c.rights.result.now in
    let gs = c.rights-2.result.now in
    let ms = c.members.result.now in
    let made : Made L h own es rs gs ms = record {
      accounts = c.of_kind-accounts.ensures;
      roles = c.of_kind.ensures;
      objects = c.objects-objects.ensures;
      within = c.within-within.ensures;
      owned = c.owned.ensures;
      owners = c.owners.ensures;
      given = c.given.ensures;
      own_holds = c.own-own.ensures.holds;
      own_grants = c.own-own.ensures.grants;
      role_holds = c.of_roles-of_roles.ensures.holds;
      role_grants = c.of_roles-of_roles.ensures.grants;
      holds = c.of_accounts-of_accounts.ensures.holds;
      grants = c.of_accounts-of_accounts.ensures.grants;
      enterers = c.enterers.ensures;
      calls = c.calls.ensures;
    } in
    told_of L (ready m).sound h own
    (subst (λ (xs : List Member). Made L h own L.entities L.rights L.rights xs) c.members.ensures
    (subst (λ (xs : List RightRecord). Made L h own L.entities L.rights xs ms) c.rights-2.ensures
    (subst (λ (xs : List RightRecord). Made L h own L.entities xs gs ms) c.rights.ensures
    (subst (λ (xs : List Entity). Made L h own xs rs gs ms) c.entities-entities.ensures made))))
