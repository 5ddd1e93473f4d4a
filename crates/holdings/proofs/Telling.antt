-- What the tables tell of a sound catalogue.
use Rattle.std.proofs.Common.{rules, ◌≡◌, ℕ, ◌<◌, Bool, true, ◌&&◌, ◌||◌, ◌⊎◌, eqb, ltb, List, length, Some, None, Option, Decides, refl, sym, ap, ◌∙◌, inl, inr, ⊎_elim, is_some, arith}
use mathlib.Core.List.Memᴰ
use Rattle.std.specs.List.{slice_get, list_any}
use Rattle.std.proofs.lemmas.Bool.{false≢true, or_cases, or_left, or_right, and_parts, and_from, eqb-true, eq-eqb, lt-ltb}
use Rattle.std.proofs.lemmas.Bool.Decides.{Decides-like, Decides-below_or}
use Rattle.access.specs.declared.entities.Kind.{Kind}
use Rattle.access.specs.declared.entities.Kind.TheVariants as kind
use Rattle.access.specs.declared.entities.Mode.{Mode}
use Rattle.access.specs.declared.entities.Mode.TheVariants.{Parent}
use Rattle.access.specs.declared.entities.Entity.{Entity}
use Rattle.access.specs.declared.rights.Right.{Right}
use Rattle.access.specs.declared.rights.RightRecord.{RightRecord}
use Rattle.access.specs.declared.roles.Member.{Member}
use Rattle.access.specs.declared.code.Object.{Object}
use Rattle.access.specs.declared.code.Object.TheVariants as object
use Rattle.access.specs.Lists.{◌∈◌, Lists, public, passes, fits, is_principal, is_account}
use Rattle.access.specs.Numbers.{kind_number, mode_number, right_number}
use Rattle.access.specs.Orders.{RoleBelow, Within}
use Rattle.access.proofs.NumberLaws.{same_right}
use Rattle.grid.specs.Grids.{noted}
use Rattle.order.proofs.TreeLaws.{below_stands}
use Rattle.catalogue.specs.Sound.{Sound, TakesRight, TakesMember}
use Rattle.lookup.specs.Records.{opens}
use Rattle.lookup.proofs.Slots.{right_told}
use Rattle.lookup.proofs.Telling.{any_gives, any_from}
use Rattle.runs.specs.Standing.{Is, IsObject, a_procedure, a_trigger, created, Owns}
use Rattle.runs.specs.Rights.{right_record, member_record, Has, by_record, CanGrant, by_option, InRole, as_anyone, as_member}
use Rattle.runs.proofs.Grounds.{few, all_in}
use Rattle.holdings.specs.Giving.{is_kind, is_host, is_object, owner_is, any_below, same_one, gives, has_by, can_by, owns_over, opens_one, joined_has, Lent}
use Rattle.holdings.specs.Told.{at_rest}
use Rattle.holdings.proofs.Lending.{role_stands}
use Rattle.fitting.proofs.Smalls.{is_small}
use Rattle.fitting.proofs.Owners.{owner_small}

-- Kinds

kind_back : (k j : Kind) → kind_number k ≡ kind_number j → k ≡ j
kind_back = search rules

mode_back : (m n : Mode) → mode_number m ≡ mode_number n → m ≡ n
mode_back = search rules

module _ (L : Lists) where
  pub kind_told : (k : Kind) (e : ℕ) → Decides (is_kind k (slice_get L.entities e)) (Is L k e)
  kind_told k e = (go (slice_get L.entities e) refl, λ i. ap (is_kind k) i.there ∙ eq-eqb _ _ (ap kind_number i.kind))
    where
      go : (o : Option Entity) → slice_get L.entities e ≡ o → is_kind k (slice_get L.entities e) ≡ true → Is L k e
      go None p t = absurd (false≢true (ap (is_kind k) (sym p) ∙ t))
      go (Some x) p t = record { entity = x; there = p; kind = kind_back x.kind k (eqb-true _ _ (ap (is_kind k) (sym p) ∙ t)) }

  pub owner_told : (o e : ℕ) → Decides (owner_is o (slice_get L.entities e)) (Owns L o e)
  owner_told o e = (go (slice_get L.entities e) refl, λ w. ap (owner_is o) w.there ∙ eq-eqb _ _ (sym w.owner))
    where
      go : (p : Option Entity) → slice_get L.entities e ≡ p → owner_is o (slice_get L.entities e) ≡ true → Owns L o e
      go None p t = absurd (false≢true (ap (owner_is o) (sym p) ∙ t))
      go (Some x) p t = record { entity = x; there = p; owner = sym (eqb-true _ _ (ap (owner_is o) (sym p) ∙ t)) }

  host_told : (e : ℕ) → Decides (is_host (slice_get L.entities e)) (IsObject L (object.Created e))
  host_told e = (go (slice_get L.entities e) refl, back)
    where
      go : (o : Option Entity) → slice_get L.entities e ≡ o → is_host (slice_get L.entities e) ≡ true → IsObject L (object.Created e)
      go None p t = absurd (false≢true (ap is_host (sym p) ∙ t))
      go (Some x) p t =
          let both = and_parts (eqb (kind_number x.kind) (kind_number kind.Container)) _ (ap is_host (sym p) ∙ t) in
          let i : Is L kind.Container e = record { entity = x; there = p; kind = kind_back x.kind kind.Container (eqb-true _ _ both.0) } in
          created i (mode_back x.mode Parent (eqb-true _ _ both.1))

      back : IsObject L (object.Created e) → is_host (slice_get L.entities e) ≡ true
      back (created i m) = ap is_host i.there ∙ and_from _ _ (eq-eqb _ _ (ap kind_number i.kind)) (eq-eqb _ _ (ap mode_number m))

  pub object_told : (x : Object) → Decides (is_object L.entities x) (IsObject L x)
  object_told (object.Procedure e) = Decides-like _ (λ i. a_procedure i) (λ i. elim i [ a_procedure j ↦ j ]) (kind_told kind.Procedure e)
  object_told (object.Triggers e event) = Decides-like _ (λ i. a_trigger i) (λ i. elim i [ a_trigger j ↦ j ]) (kind_told kind.Table e)
  object_told (object.Created e) = host_told e

-- Numbers that the tables have room for

module _ (L : Lists) (s : Sound L) where
  fits_small : (test : Kind → Bool) (n : ℕ) → fits test L.entities n ≡ true → n < 96
  fits_small test n h = go (slice_get L.entities n) refl
    where
      go : (o : Option Entity) → slice_get L.entities n ≡ o → n < 96
      go None p = absurd (false≢true (ap (passes test) (sym p) ∙ h))
      go (Some x) p = let most = few L s in let low = below_stands L.entities n (ap is_some p) in omega arith

  right_taken : {g : RightRecord} → g ∈ L.rights → TakesRight L.entities g
  right_taken {g} m = all_in (TakesRight L.entities) L.rights g s.rights.fit m

  principal_small : {g : RightRecord} → g ∈ L.rights → g.principal < 96
  principal_small {g} m = fits_small is_principal g.principal (right_taken m).0

  entity_small : {g : RightRecord} → g ∈ L.rights → g.entity < 128
  entity_small {g} m = let most = few L s in let low = below_stands L.entities g.entity (right_taken m).1 in omega arith

  member_small : {m : Member} → m ∈ L.members → m.account < 96
  member_small {m} i = fits_small is_account m.account (all_in (TakesMember L.entities) L.members m s.members.fit i).0

  -- what everyone is given with the option
  pub given_told : (e : ℕ) (r : Right) → Decides (list_any (opens_one e (right_number r)) L.rights) (right_record public e r true ∈ L.rights)
  given_told e r = (
    λ t. let (g, m, h) = any_gives (opens_one e (right_number r)) L.rights t in
        Memᴰ.cast ((right_told e r g).0 (and_parts (opens e (right_number r) g) _ h).0) m,
    λ m. any_from (opens_one e (right_number r)) m
        (and_from _ _ ((right_told e r (right_record public e r true)).1 refl) (lt-ltb e 128 (entity_small m))),
  )

  -- What principals have and can grant by themselves

  module _ (inside : List ℕ) (w : (d e : ℕ) → Decides (noted inside d e) (Within L.entities e d)) where
    owns_told : (p e x : ℕ) → Decides (owns_over L.entities inside p e x) (Owns L p x × Within L.entities e x)
    owns_told p e x = (
      λ t. let a = and_parts (owner_is p (slice_get L.entities x) && ltb p 96) _ t in
          ((owner_told L p x).0 (and_parts (owner_is p (slice_get L.entities x)) _ a.0).0, (w x e).0 a.1),
      λ (o, i). and_from _ _ (and_from _ _ ((owner_told L p x).1 o) (lt-ltb p 96 (owner_small s o))) ((w x e).1 i),
    )

    owning_told : (p e : ℕ)
        → Decides (any_below (owns_over L.entities inside p e) (length L.entities)) ((x : ℕ) × (x < length L.entities) × (Owns L p x × Within L.entities e x))
    owning_told p e =
        Decides-below_or (owns_over L.entities inside p e) (λ x. Owns L p x × Within L.entities e x) (any_below (owns_over L.entities inside p e))
        (owns_told p e) refl (λ _. refl) (length L.entities)

    owning_from : {p e d : ℕ} → Within L.entities e d → Owns L p d → any_below (owns_over L.entities inside p e) (length L.entities) ≡ true
    owning_from {p} {e} {d} i o = (owning_told p e).1 (d, below_stands L.entities d (ap is_some o.there), (o, i))

    -- a record gives p the right
    given_by : (p : ℕ) (r : Right) (g : RightRecord) → gives p (right_number r) g ≡ true → right_record p g.entity r g.option ≡ g
    given_by p r g t =
        let a = and_parts (same_one p g.principal) _ t in
        ap (λ (q : ℕ). right_record q g.entity r g.option) (eqb-true p g.principal (and_parts (eqb p g.principal) _ a.0).0)
        ∙ ap (λ q. right_record g.principal g.entity q g.option) (same_right r g.right (eqb-true _ _ a.1))

    gives_from : (r : Right) {g : RightRecord} → g ∈ L.rights → r ≡ g.right → gives g.principal (right_number r) g ≡ true
    gives_from r {g} m e =
        and_from _ _ (and_from _ _ (eq-eqb g.principal g.principal refl) (lt-ltb g.principal 96 (principal_small m))) (eq-eqb _ _ (ap right_number e))

    pub has_told : (p e : ℕ) (r : Right)
        → Decides (any_below (owns_over L.entities inside p e) (length L.entities) || list_any (has_by inside p (right_number r) e) L.rights) (Has L (at_rest L) p e r)
    has_told p e r = (
      λ t. ⊎_elim
          (λ o. let (x, l, b) = (owning_told p e).0 o in Has.by_owning b.1 b.0)
          (λ n. let (g, m, h) = any_gives (has_by inside p (right_number r) e) L.rights n in
          let a = and_parts (gives p (right_number r) g) _ h in
          by_record ((w g.entity e).0 a.1) (Memᴰ.cast (given_by p r g a.0) m))
          (or_cases (any_below (owns_over L.entities inside p e) (length L.entities)) _ t),
      back,
    )
      where
        back : Has L (at_rest L) p e r
            → (any_below (owns_over L.entities inside p e) (length L.entities) || list_any (has_by inside p (right_number r) e) L.rights) ≡ true
        back (by_record {d = d} i m) =
            or_right (any_below (owns_over L.entities inside p e) (length L.entities)) _
            (any_from (has_by inside p (right_number r) e) m (and_from _ _ (gives_from r m refl) ((w d e).1 i)))
        back (Has.by_owning i o) = or_left _ _ (owning_from i o)

    pub can_told : (p e : ℕ) (r : Right)
        → Decides (any_below (owns_over L.entities inside p e) (length L.entities) || list_any (can_by p (right_number r) e) L.rights) (CanGrant L (at_rest L) p e r)
    can_told p e r = (
      λ t. ⊎_elim
          (λ o. let (x, l, b) = (owning_told p e).0 o in CanGrant.by_owning b.1 b.0)
          (λ n. let (g, m, h) = any_gives (can_by p (right_number r) e) L.rights n in
          let a = and_parts (gives p (right_number r) g) _ h in
          let b = and_parts g.option _ a.1 in
          let same : e ≡ g.entity = eqb-true e g.entity (and_parts (eqb e g.entity) _ b.1).0 in
          by_option (Memᴰ.cast (ap (λ (d : ℕ). right_record p d r true) same ∙ ap (right_record p g.entity r) (sym b.0) ∙ given_by p r g a.0) m))
          (or_cases (any_below (owns_over L.entities inside p e) (length L.entities)) _ t),
      back,
    )
      where
        back : CanGrant L (at_rest L) p e r
            → (any_below (owns_over L.entities inside p e) (length L.entities) || list_any (can_by p (right_number r) e) L.rights) ≡ true
        back (by_option m) =
            or_right (any_below (owns_over L.entities inside p e) (length L.entities)) _
            (any_from (can_by p (right_number r) e) m
            (and_from _ _ (gives_from r m refl) (and_from _ _ refl (and_from _ _ (eq-eqb e e refl) (lt-ltb e 128 (entity_small m))))))
        back (CanGrant.by_owning i o) = or_left _ _ (owning_from i o)

  -- What members of roles do by them, and what accounts hold and may grant

  module _ (own : ℕ → ℕ → ℕ → Bool) (P : ℕ → Type 0) (k e : ℕ) (by_itself : (p : ℕ) → Decides (own p k e) (P p)) where
    pub lent_told : (q : ℕ) (b : Bool) → Decides b (Lent L own (length L.entities) q k e)
        → Decides b ((role : ℕ) × RoleBelow L.entities L.links role q × P role)
    lent_told q b d =
        Decides-like b (λ t. (t.role, t.below, (by_itself t.role).0 t.has))
        (λ (role, below, h). record { role = role; small = (role_stands L s below).0; below = below; has = (by_itself role).1 h }) d

    module _ (roles : ℕ → ℕ → ℕ → Bool) (by_role : (q : ℕ) → Decides (roles q k e) ((role : ℕ) × RoleBelow L.entities L.links role q × P role))
        (a : ℕ) (is : Is L kind.Account a) (account : Bool) (told : Decides account (Is L kind.Account a)) where
      abbrev test : Bool
      test = (account && (ltb a 96 && (own a k e || roles public k e))) || list_any (joined_has roles a k e) L.members

      abbrev Holder : Type 0
      Holder = P a ⊎ ((q : ℕ) × InRole L (at_rest L) a q × P q)

      holder_gives : test ≡ true → Holder
      holder_gives t =
          ⊎_elim
          (λ h. let b = and_parts (ltb a 96) _ (and_parts account _ h).1 in
          ⊎_elim (λ o. inl ((by_itself a).0 o)) (λ o. let (q, below, p) = (by_role public).0 o in inr (q, as_anyone below, p)) (or_cases (own a k e) _ b.1))
          (λ n. let (m, i, h) = any_gives (joined_has roles a k e) L.members n in
          let b = and_parts (same_one a m.account) _ h in
          let (q, below, p) = (by_role m.role).0 b.1 in
          let same : a ≡ m.account = eqb-true a m.account (and_parts (eqb a m.account) _ b.0).0 in
          inr (q, as_member (Memᴰ.cast (ap (λ (v : ℕ). member_record v m.role) same) i) below, p))
          (or_cases (account && (ltb a 96 && (own a k e || roles public k e))) _ t)

      by_account : (own a k e || roles public k e) ≡ true → test ≡ true
      by_account h = or_left _ _ (and_from _ _ (told.1 is) (and_from _ _ (lt-ltb a 96 (is_small s is)) h))

      in_role : {q : ℕ} → InRole L (at_rest L) a q → P q → test ≡ true
      in_role {q} (as_anyone below) p = by_account (or_right (own a k e) _ ((by_role public).1 (q, below, p)))
      in_role {q} (as_member {s = r} m below) p =
          or_right (account && (ltb a 96 && (own a k e || roles public k e))) _
          (any_from (joined_has roles a k e) m
          (and_from _ _ (and_from _ _ (eq-eqb a a refl) (lt-ltb a 96 (member_small m))) ((by_role r).1 (q, below, p))))

      pub holder_told : Decides test Holder
      holder_told = (holder_gives, λ h. ⊎_elim (λ p. by_account (or_left _ _ ((by_itself a).1 p))) (λ (q, i, p). in_role i p) h)
