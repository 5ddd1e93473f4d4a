-- Tables that are made as the code makes them tell what they should.
use Rattle.std.proofs.Common.{◌≡◌, ℕ, ◌<◌, true, ◌&&◌, ◌||◌, eqb, ltb, ◌⊎◌, List, length, Decides, sym, ◌∙◌, inl, inr}
use Rattle.std.specs.List.{slice_get, list_any}
use Rattle.std.proofs.lemmas.Bool.{and_parts, and_from, eq-eqb, lt-ltb}
use Rattle.std.proofs.lemmas.Bool.Decides.{Decides-at, Decides-like}
use Rattle.access.specs.declared.entities.Kind.TheVariants.{Account, Role}
use Rattle.access.specs.declared.entities.Entity.{Entity}
use Rattle.access.specs.declared.rights.Right.{Right}
use Rattle.access.specs.declared.rights.RightRecord.{RightRecord}
use Rattle.access.specs.declared.roles.Member.{Member}
use Rattle.access.specs.declared.code.Object.{Object}
use Rattle.access.specs.Bits.{bit}
use Rattle.access.specs.Lists.{Lists, public}
use Rattle.access.specs.Numbers.{right_number}
use Rattle.access.specs.Orders.{RoleBelow, Within}
use Rattle.access.specs.Places.{place_of}
use Rattle.access.proofs.NumberLaws.{right_small}
use Rattle.grid.specs.Grids.{noted}
use Rattle.catalogue.specs.Sound.{Sound}
use Rattle.lookup.specs.Tables.{sort_number, slot_of}
use Rattle.lookup.proofs.Telling.{any_from}
use Rattle.runs.specs.Standing.{Is, IsObject, Owns, entry_right}
use Rattle.runs.specs.Rights.{Has, CanGrant, InRole, Holds, MayGrant}
use Rattle.holdings.specs.declared.powers.Powers.{Powers}
use Rattle.holdings.specs.declared.tables.Holdings.{Holdings}
use Rattle.holdings.specs.Giving.{is_kind, is_object, owner_is, any_below, has_by, can_by, owns_over, opens_one, joined_has, enters_by, Lent}
use Rattle.holdings.specs.Rows.{has, can}
use Rattle.holdings.specs.Calls.{CallsTold}
use Rattle.holdings.specs.Told.{at_rest, HasBelow, CanBelow, Told}
use Rattle.holdings.proofs.Calling.{placed_in}
use Rattle.fitting.proofs.Smalls.{object_small}
use Rattle.fitting.proofs.Owners.{owner_small}
use Rattle.holdings.proofs.Telling.{kind_told, owner_told, object_told, given_told, has_told, can_told, lent_told, holder_told}

-- what the calls say of the tables, where `own` is what each principal has by itself
pub record Made (L : Lists) (h : Holdings) (own : Powers) (es : List Entity) (rights opened : List RightRecord) (members : List Member) : Type 0 where
  pub accounts : (x : ℕ) → bit h.accounts x ≡ is_kind Account (slice_get es x)
  pub roles : (x : ℕ) → bit h.roles x ≡ is_kind Role (slice_get es x)
  pub objects : (x : Object) → noted h.objects.rows (sort_number x) (place_of x) ≡ is_object es x
  pub within : (d e : ℕ) → Decides (noted h.within.rows d e) (Within L.entities e d)
  pub owned : (o e : ℕ) → noted h.owned.rows o e ≡ (owner_is o (slice_get es e) && ltb o 96)
  pub owners : (o : ℕ) → o < 96 → bit h.owners o ≡ list_any (λ x. eqb o x.owner) es
  pub given : (k e : ℕ) → k < 7 → noted h.given.rows k e ≡ list_any (opens_one e k) opened
  pub own_holds : (p k e : ℕ) → k < 7
      → has own p k e ≡ (any_below (owns_over es h.within.rows p e) (length es) || list_any (has_by h.within.rows p k e) rights)
  pub own_grants : (p k e : ℕ) → k < 7
      → can own p k e ≡ (any_below (owns_over es h.within.rows p e) (length es) || list_any (can_by p k e) rights)
  pub role_holds : (q k e : ℕ) → k < 7 → Decides (has h.of_roles q k e) (Lent L (has own) (length L.entities) q k e)
  pub role_grants : (q k e : ℕ) → k < 7 → Decides (can h.of_roles q k e) (Lent L (can own) (length L.entities) q k e)
  pub holds : (p k e : ℕ) → k < 7
      → has h.of_accounts p k e
      ≡ ((bit h.accounts p && (ltb p 96 && (has own p k e || has h.of_roles public k e))) || list_any (joined_has (has h.of_roles) p k e) members)
  pub grants : (p k e : ℕ) → k < 7
      → can h.of_accounts p k e
      ≡ ((bit h.accounts p && (ltb p 96 && (can own p k e || can h.of_roles public k e))) || list_any (joined_has (can h.of_roles) p k e) members)
  pub enterers : (x : Object) (v : ℕ) → place_of x < 96
      → noted h.enterers.rows (slot_of x) v ≡ (bit h.accounts v && enters_by (has h.of_accounts) h.objects.rows v x)
  pub calls : CallsTold L h.calls

module _ (L : Lists) (s : Sound L) (h : Holdings) (own : Powers) (m : Made L h own L.entities L.rights L.rights L.members) where
  owned_told : (o e : ℕ) → Decides (owner_is o (slice_get L.entities e) && ltb o 96) (Owns L o e)
  owned_told o e = (
    λ t. (owner_told L o e).0 (and_parts (owner_is o (slice_get L.entities e)) _ t).0,
    λ w. and_from _ _ ((owner_told L o e).1 w) (lt-ltb o 96 (owner_small s w)),
  )

  owner_noted : (o e : ℕ) → Owns L o e → bit h.owners o ≡ true
  owner_noted o e w =
      m.owners o (owner_small s w) ∙ any_from (λ x. eqb o x.owner) (placed_in L.entities e w.entity w.there) (eq-eqb _ _ (sym w.owner))

  is_account : (v : ℕ) → Decides (bit h.accounts v) (Is L Account v)
  is_account v = Decides-at _ _ (m.accounts v) (kind_told L Account v)

  module _ (e : ℕ) (r : Right) where
    abbrev k : ℕ
    k = right_number r

    abbrev HasIt : ℕ → Type 0
    HasIt p = Has L (at_rest L) p e r

    abbrev CanIt : ℕ → Type 0
    CanIt p = CanGrant L (at_rest L) p e r

    own_has : (p : ℕ) → Decides (has own p k e) (HasIt p)
    own_has p = Decides-at _ _ (m.own_holds p k e (right_small r)) (has_told L s h.within.rows m.within p e r)

    own_can : (p : ℕ) → Decides (can own p k e) (CanIt p)
    own_can p = Decides-at _ _ (m.own_grants p k e (right_small r)) (can_told L s h.within.rows m.within p e r)

    below_has : (q : ℕ) → Decides (has h.of_roles q k e) ((role : ℕ) × RoleBelow L.entities L.links role q × HasIt role)
    below_has q = lent_told L s (has own) HasIt k e own_has q _ (m.role_holds q k e (right_small r))

    below_can : (q : ℕ) → Decides (can h.of_roles q k e) ((role : ℕ) × RoleBelow L.entities L.links role q × CanIt role)
    below_can q = lent_told L s (can own) CanIt k e own_can q _ (m.role_grants q k e (right_small r))

    role_has : (q : ℕ) → Decides (has h.of_roles q k e) (HasBelow L q e r)
    role_has q =
        Decides-like _ (λ (role, below, p). record { role = role; below = below; has = p }) (λ t. (t.role, t.below, t.has)) (below_has q)

    role_can : (q : ℕ) → Decides (can h.of_roles q k e) (CanBelow L q e r)
    role_can q =
        Decides-like _ (λ (role, below, p). record { role = role; below = below; can = p }) (λ t. (t.role, t.below, t.can)) (below_can q)

    module _ (a : ℕ) (is : Is L Account a) where
      some_holds : HasIt a ⊎ ((q : ℕ) × InRole L (at_rest L) a q × HasIt q) → Holds L (at_rest L) a e r
      some_holds (inl p) = Holds.itself p
      some_holds (inr (q, i, p)) = Holds.in_role i p

      holds_some : Holds L (at_rest L) a e r → HasIt a ⊎ ((q : ℕ) × InRole L (at_rest L) a q × HasIt q)
      holds_some (Holds.itself p) = inl p
      holds_some (Holds.in_role {q = q} i p) = inr (q, i, p)

      some_grants : CanIt a ⊎ ((q : ℕ) × InRole L (at_rest L) a q × CanIt q) → MayGrant L (at_rest L) a e r
      some_grants (inl p) = MayGrant.itself p
      some_grants (inr (q, i, p)) = MayGrant.in_role i p

      grants_some : MayGrant L (at_rest L) a e r → CanIt a ⊎ ((q : ℕ) × InRole L (at_rest L) a q × CanIt q)
      grants_some (MayGrant.itself p) = inl p
      grants_some (MayGrant.in_role {q = q} i p) = inr (q, i, p)

      account_holds : Decides (has h.of_accounts a k e) (Holds L (at_rest L) a e r)
      account_holds =
          Decides-at _ _ (m.holds a k e (right_small r))
          (Decides-like _ some_holds holds_some (holder_told L s (has own) HasIt k e own_has (has h.of_roles) below_has a is (bit h.accounts a) (is_account a)))

      account_grants : Decides (can h.of_accounts a k e) (MayGrant L (at_rest L) a e r)
      account_grants =
          Decides-at _ _ (m.grants a k e (right_small r))
          (Decides-like _ some_grants grants_some (holder_told L s (can own) CanIt k e own_can (can h.of_roles) below_can a is (bit h.accounts a) (is_account a)))

  enterer_told : (x : Object) (a : ℕ) → IsObject L x → Is L Account a
      → Decides (noted h.enterers.rows (slot_of x) a) (Holds L (at_rest L) a (place_of x) (entry_right x))
  enterer_told x a o is =
      let holds = account_holds (place_of x) (entry_right x) a is in
      let same = m.enterers x a (object_small s o) in (
        λ t. holds.0 (and_parts _ _ (and_parts _ _ (sym same ∙ t)).1).0,
        λ t. same ∙ and_from _ _ ((is_account a).1 is) (and_from _ _ (holds.1 t) (m.objects x ∙ (object_told L x).1 o)),
      )

  pub told_of : Told L h
  told_of = record {
    accounts = is_account;
    roles = λ q. Decides-at _ _ (m.roles q) (kind_told L Role q);
    objects = λ x. Decides-at _ _ (m.objects x) (object_told L x);
    within = m.within;
    owned = λ o e. Decides-at _ _ (m.owned o e) (owned_told o e);
    owners = owner_noted;
    given = λ e r. Decides-at _ _ (m.given (right_number r) e (right_small r)) (given_told L s e r);
    holds = λ a e r is. account_holds e r a is;
    grants = λ a e r is. account_grants e r a is;
    enterers = enterer_told;
    calls = m.calls;
    role_holds = λ q e r is. role_has e r q;
    role_grants = λ q e r is. role_can e r q;
  }
