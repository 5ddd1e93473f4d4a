-- The tests decide what stands, the two orders, and who holds and may grant a right.
use Rattle.std.proofs.Common.{◌≡◌, ℕ, zero, suc, ◌-◌, ◌<◌, ◌≤◌, Bool, true, false, not, T, eqb, ◌⊎◌, List, [], length, Some, None, Option, Decides, refl, sym, ap, ◌∙◌, subst, inl, inr, arith, eqb→eq, lt→ltb, not-suc-le-zero}
use mathlib.Core.List.Memᴰ
use Rattle.std.specs.List.{slice_get}
use Rattle.std.proofs.Math.Dec.{eqb_refl, T_not}
use Rattle.access.specs.declared.entities.Kind.{Kind}
use Rattle.access.specs.declared.entities.Kind.TheVariants as kind
use Rattle.access.specs.declared.entities.Entity.{Entity}
use Rattle.access.specs.declared.rights.Right.{Right}
use Rattle.access.specs.declared.rights.Right.TheVariants.{Alter}
use Rattle.access.specs.declared.rights.RightRecord.{RightRecord}
use Rattle.access.specs.declared.roles.Member.{Member}
use Rattle.access.specs.declared.code.Event.{Event}
use Rattle.access.specs.declared.code.Event.TheVariants.{Inserted, Updated, Deleted}
use Rattle.access.specs.declared.code.Object.{Object}
use Rattle.access.specs.declared.code.Object.TheVariants as object
use Rattle.access.specs.declared.code.Action.{Action}
use Rattle.access.specs.declared.code.Action.TheVariants as action
use Rattle.access.specs.Lists.{◌∈◌, Lists, public}
use Rattle.access.specs.Numbers.{kind_number, right_number}
use Rattle.access.specs.Orders.{RoleBelow, Within}
use Rattle.access.specs.Places.{place_of}
use Rattle.order.proofs.RoleLaws.{role_below_lem, linked_roles_lem}
use Rattle.order.proofs.TreeLaws.{stands_is, below_stands, within_stands}
use Rattle.catalogue.specs.Sound.{Sound}
use Rattle.catalogue.specs.Judgements.{in_parent}
use Rattle.runs.specs.Standing.{Stands, Is, Owns, OneOwner, IsObject, a_procedure, a_trigger, created, entry_right}
use Rattle.runs.specs.States.{State}
use Rattle.runs.specs.Rights.{right_record, member_record, Has, by_record, CanGrant, by_option, InRole, as_anyone, as_member, Holds, MayGrant}
use Rattle.runs.specs.Runs.{MayDo, by_right, by_owner, by_grant, by_alter}
use Rattle.runs.specs.Saturated.{Plantable}
use Rattle.runs.proofs.Grounds.{is_stands, role_is, rooted}
use Rattle.runs.proofs.Ordering.{lower_role}
use Rattle.cases.proofs.Deciding.{only, more_of, is_kind, is_made, owner_is, one_owner, up_from, objects_of, objects_at, numbers, at, isᵇ, are, objects, objectᵇ, chain, above, belowᵇ, role_of, in_roleᵇ, principals, gives, hasᵇ, holdsᵇ, opens, canᵇ, mayᵇ, plantᵇ, ownerᵇ, doesᵇ}
use Rattle.cases.proofs.TestLaws.{passes, passed, and_left, and_right, and_both, or_cases, or_left, or_right, Passing, any_some, some_any, keep_new, in_only, only_in, in_each, equal_or_not, in_upto, right_eq, kind_eq, mode_eq, found_number, number_found}

more_in : (b : Bool) (f : Unit {0} → List ℕ) (x : ℕ) → x ∈ more_of b f → T (not b) × (x ∈ f tt)
unfolding more_of
more_in true f x m = absurd (Memᴰ.not-nil m)
more_in false f x m = (tt, m)

in_more : (b : Bool) (f : Unit {0} → List ℕ) (x : ℕ) → T (not b) → x ∈ f tt → x ∈ more_of b f
unfolding more_of
in_more true f x t m = absurd t
in_more false f x t m = m

double_not : (b : Bool) → T (not (not b)) → T b
double_not true t = t
double_not false t = t

not_double : (b : Bool) → T b → T (not (not b))
not_double true t = t
not_double false t = t

module _ (L : Lists) where
  pub is_true : (k : Kind) (e : ℕ) → T (isᵇ L k e) → Is L k e
  is_true k e h = go (slice_get L.entities e) refl
    where
      go : (o : Option Entity) → slice_get L.entities e ≡ o → Is L k e
      go None p = absurd (subst (λ o. T (is_kind k o)) p h)
      go (Some x) p = record { entity = x; there = p; kind = kind_eq x.kind k (subst (λ o. T (is_kind k o)) p h) }

  pub true_is : (k : Kind) (e : ℕ) → Is L k e → T (isᵇ L k e)
  true_is k e i =
      subst (λ o. T (is_kind k o)) (sym i.there) (subst (λ j. T (eqb (kind_number j) (kind_number k))) (sym i.kind) (eqb_refl (kind_number k)))

  pub stands_lt : (e : ℕ) → Stands L e → e < length L.entities
  stands_lt e h = below_stands L.entities e h

  pub stands_in : (e : ℕ) → Stands L e → e ∈ numbers L
  stands_in e h = in_upto (length L.entities) e (stands_lt e h)

  lt_stands : (e : ℕ) → e < length L.entities → Stands L e
  lt_stands e h = stands_is L.entities e ∙ passed _ (lt→ltb e (length L.entities) h)

  pub in_are : (k : Kind) (e : ℕ) → Is L k e → e ∈ are L k
  in_are k e i = in_only (isᵇ L k) e (stands_in e (is_stands L i)) (true_is k e i)

  made : (e : ℕ) → T (is_made (at L e)) → IsObject L (object.Created e)
  made e h = go (slice_get L.entities e) refl
    where
      go : (o : Option Entity) → slice_get L.entities e ≡ o → IsObject L (object.Created e)
      go None p = absurd (subst (λ o. T (is_made o)) p h)
      go (Some x) p =
          let t : T (is_made (Some x)) = subst (λ o. T (is_made o)) p h in
          created (record { entity = x; there = p; kind = kind_eq x.kind kind.Container (and_left _ _ t) }) (mode_eq x.mode (and_right _ _ t))

  pub object_true : (x : Object) → T (objectᵇ L x) → IsObject L x
  object_true (object.Procedure o) h = a_procedure (is_true kind.Procedure o h)
  object_true (object.Triggers t a) h = a_trigger (is_true kind.Table t h)
  object_true (object.Created c) h = made c h

  pub true_object : (x : Object) → IsObject L x → T (objectᵇ L x)
  true_object x (a_procedure {e = o} i) = true_is kind.Procedure o i
  true_object x (a_trigger {e = t} i) = true_is kind.Table t i
  true_object x (created {e = c} i q) =
      subst (λ o. T (is_made o)) (sym i.there)
      (and_both _ _ (subst (λ j. T (eqb (kind_number j) (kind_number kind.Container))) (sym i.kind) tt) (subst (λ m. T (in_parent m)) (sym q) tt))

  in_triggers : (t : ℕ) (a : Event) (b : Bool) → object.Triggers t a ∈ objects_of kind.Table b t
  in_triggers t Inserted b = Memᴰ.head refl
  in_triggers t Updated b = Memᴰ.tail (Memᴰ.head refl)
  in_triggers t Deleted b = Memᴰ.tail (Memᴰ.tail (Memᴰ.head refl))

  objects_there : {k : Kind} {e : ℕ} (x : Object) (i : Is L k e) → x ∈ objects_of k (in_parent i.entity.mode) e → x ∈ objects_at e (at L e)
  objects_there {k} {e} x i m =
      subst (λ o. x ∈ objects_at e o) (sym i.there) (subst (λ j. x ∈ objects_of j (in_parent i.entity.mode) e) (sym i.kind) m)

  at_place : (x : Object) → IsObject L x → x ∈ objects_at (place_of x) (at L (place_of x))
  at_place x (a_procedure {e = o} i) = objects_there x i (Memᴰ.head refl)
  at_place x (a_trigger {e = t} {event = a} i) = objects_there x i (in_triggers t a (in_parent i.entity.mode))
  at_place x (created {e = c} i q) =
      objects_there x i (keep_new (in_parent i.entity.mode) (object.Created c) [] (subst (λ m. T (in_parent m)) (sym q) tt))

  place_stands : (x : Object) → IsObject L x → Stands L (place_of x)
  place_stands x (a_procedure i) = is_stands L i
  place_stands x (a_trigger i) = is_stands L i
  place_stands x (created i q) = is_stands L i

  pub in_objects : (x : Object) → IsObject L x → x ∈ objects L
  in_objects x i = in_each (λ e. objects_at e (at L e)) (place_of x) x (stands_in (place_of x) (place_stands x i)) (at_place x i)

  owner_true : (p d : ℕ) → T (owner_is p (at L d)) → Owns L p d
  owner_true p d h = go (slice_get L.entities d) refl
    where
      go : (o : Option Entity) → slice_get L.entities d ≡ o → Owns L p d
      go None q = absurd (subst (λ o. T (owner_is p o)) q h)
      go (Some x) q = record { entity = x; there = q; owner = eqb→eq x.owner p (subst (λ o. T (owner_is p o)) q h) }

  true_owner : {p d : ℕ} → Owns L p d → T (owner_is p (at L d))
  true_owner {p} {d} o = subst (λ x. T (owner_is p x)) (sym o.there) (subst (λ n. T (eqb n p)) (sym o.owner) (eqb_refl p))

module _ (L : Lists) (s : Sound L) where
  parent_below : (e : ℕ) (x : Entity) → slice_get L.entities e ≡ Some x → x.parent ≤ e - 1
  parent_below e x p = rooted L s e x p

  parent_stands : (e : ℕ) (x : Entity) → Stands L e → slice_get L.entities e ≡ Some x → Stands L x.parent
  parent_stands e x t p = lt_stands L x.parent (let a = parent_below e x p in let b = stands_lt L e t in omega arith)

  chain_up : (n e d : ℕ) → Stands L e → (o : Option Entity) → slice_get L.entities e ≡ o
      → ((x : ℕ) → Stands L x → d ∈ chain L n x → Within L.entities x d)
      → T (not (eqb (up_from e (at L e)) e)) × (d ∈ chain L n (up_from e (at L e))) → Within L.entities e d
  chain_up n e d t None p w k =
      absurd (T_not (eqb e e) (subst (λ o. T (not (eqb (up_from e o) e))) p k.0) (eqb_refl e))
  chain_up n e d t (Some x) p w k = Within.up p (w x.parent (parent_stands e x t p) (subst (λ o. d ∈ chain L n (up_from e o)) p k.1))

  chain_in : (n e d : ℕ) → Stands L e → d ∈ chain L n e → Within L.entities e d
  chain_in zero e d t m = absurd (Memᴰ.not-nil m)
  chain_in (suc n) e d t (Memᴰ.head q) = subst (λ x. Within L.entities e x) (sym q) (Within.itself t)
  chain_in (suc n) e d t (Memᴰ.tail m) =
      chain_up n e d t (slice_get L.entities e) refl (λ x u k. chain_in n x d u k) (more_in _ _ d m)

  nearer : (p e n : ℕ) → p ≤ e - 1 → (p ≡ e → ⊥) → e < suc n → p < n
  nearer p e n a b c = omega arith

  chain_first : (e n : ℕ) → e < n → e ∈ chain L n e
  chain_first e zero h = absurd (not-suc-le-zero h)
  chain_first e (suc n) h = Memᴰ.head refl

  chain_next : (e d : ℕ) (x : Entity) → slice_get L.entities e ≡ Some x → ((n : ℕ) → x.parent < n → d ∈ chain L n x.parent) → (n : ℕ) → e < n
      → d ∈ chain L n e
  chain_next e d x p w zero h = absurd (not-suc-le-zero h)
  chain_next e d x p w (suc n) h = go (equal_or_not x.parent e)
    where
      q : up_from e (at L e) ≡ x.parent
      q = ap (up_from e) p

      go : (T (eqb x.parent e) × (x.parent ≡ e)) ⊎ (T (not (eqb x.parent e)) × (x.parent ≡ e → ⊥)) → d ∈ chain L (suc n) e
      go (inl k) = subst (λ y. d ∈ chain L (suc n) y) k.1 (w (suc n) (subst (λ y. y < suc n) (sym k.1) h))
      go (inr k) =
          Memᴰ.tail (in_more _ _ d (subst (λ y. T (not (eqb y e))) (sym q) k.0)
          (subst (λ y. d ∈ chain L n y) (sym q) (w n (nearer x.parent e n (parent_below e x p) k.1 h))))

  in_chain : {e d : ℕ} → Within L.entities e d → (n : ℕ) → e < n → d ∈ chain L n e
  in_chain (Within.itself {e} t) n h = chain_first e n h
  in_chain (Within.up {e} {d} {x} p w) n h = chain_next e d x p (λ k g. in_chain w k g) n h

  above_in : (e d : ℕ) → d ∈ above L e → Within L.entities e d
  above_in e d m = let k = more_in _ _ d m in chain_in (suc e) e d (passed _ (double_not _ k.0)) k.1

  in_above : {e d : ℕ} → Within L.entities e d → d ∈ above L e
  in_above {e} {d} w = in_more _ _ d (not_double _ (passes (within_stands L.entities w))) (in_chain w (suc e) (omega arith))

  below_decides : (q r : ℕ) → Decides (belowᵇ L q r) (RoleBelow L.entities L.links q r)
  below_decides = role_below_lem L.entities L.links (linked_roles_lem L.entities L.links s.links.linked)

  below_true : (q r : ℕ) → T (belowᵇ L q r) → RoleBelow L.entities L.links q r
  below_true q r h = (below_decides q r).0 (passed _ h)

  true_below : (q r : ℕ) → RoleBelow L.entities L.links q r → T (belowᵇ L q r)
  true_below q r b = passes ((below_decides q r).1 b)

  role_in : {q r : ℕ} → RoleBelow L.entities L.links q r → q ∈ numbers L
  role_in {q} b =
      stands_in L q (is_stands L (role_is L q (lower_role L.entities L.links (linked_roles_lem L.entities L.links s.links.linked) b)))

  module _ (F : State) where
    in_role_true : (a q : ℕ) → T (in_roleᵇ L F a q) → InRole L F a q
    in_role_true a q h = elim (or_cases _ _ h) [ inl k ↦ as_anyone (below_true q public k) | inr k ↦ by_member (any_some _ _ k) ]
      where
        by_member : Passing (role_of L F a q) F.members → InRole L F a q
        by_member p =
            let m : Member = p.it in
            as_member (Memᴰ.cast (ap (λ x. member_record x m.role) (eqb→eq a m.account (and_left _ _ p.passes))) p.in_list)
            (below_true q m.role (and_right _ _ p.passes))

    true_in_role : {a q : ℕ} → InRole L F a q → T (in_roleᵇ L F a q)
    true_in_role {a} {q} (as_anyone b) = or_left _ _ (true_below q public b)
    true_in_role {a} {q} (as_member {s = r} m b) =
        or_right _ _ (some_any (role_of L F a q) (member_record a r) m (and_both _ _ (eqb_refl a) (true_below q r b)))

    role_stands : {a q : ℕ} → InRole L F a q → q ∈ numbers L
    role_stands (as_anyone b) = role_in b
    role_stands (as_member m b) = role_in b

    in_principals : {a q : ℕ} → InRole L F a q → q ∈ principals L F a
    in_principals {a} {q} i = Memᴰ.tail (in_only (in_roleᵇ L F a) q (role_stands i) (true_in_role i))

    of_role : (a q : ℕ) → q ∈ only (in_roleᵇ L F a) (numbers L) → InRole L F a q
    of_role a q m = in_role_true a q (only_in (in_roleᵇ L F a) (numbers L) q m).1

    module _ (e : ℕ) (r : Right) where
      has_true : (p : ℕ) → T (hasᵇ L F (above L e) r p) → Has L F p e r
      has_true p h = elim (or_cases _ _ h) [ inl k ↦ owner_has (any_some _ _ k) | inr k ↦ record_true (any_some _ _ k) ]
        where
          owner_has : Passing (λ d. owner_is p (at L d)) (above L e) → Has L F p e r
          owner_has k = Has.by_owning (above_in e k.it k.in_list) (owner_true L p k.it k.passes)

          record_true : Passing (gives L F p (above L e) r) F.rights → Has L F p e r
          record_true t =
              let g : RightRecord = t.it in
              let k = and_right _ _ t.passes in
              by_record {d = g.entity} {o = g.option} (above_in e g.entity (found_number g.entity (above L e) (and_right _ _ k)))
              (Memᴰ.cast (ap (λ x. right_record x g.entity r g.option) (eqb→eq p g.principal (and_left _ _ t.passes))
              ∙ ap (λ x. right_record g.principal g.entity x g.option) (right_eq r g.right (and_left _ _ k))) t.in_list)

      true_has : {p : ℕ} → Has L F p e r → T (hasᵇ L F (above L e) r p)
      true_has {p} (by_record {d} {o} w m) =
          or_right _ _
          (some_any _ (right_record p d r o) m (and_both _ _ (eqb_refl p) (and_both _ _ (eqb_refl (right_number r)) (number_found d (in_above w)))))
      true_has {p} (Has.by_owning {d} w o) = or_left _ _ (some_any _ d (in_above w) (true_owner L o))

      can_true : (p : ℕ) → T (canᵇ L F e (above L e) r p) → CanGrant L F p e r
      can_true p h = elim (or_cases _ _ h) [ inl k ↦ owner_can (any_some _ _ k) | inr k ↦ option_true (any_some _ _ k) ]
        where
          owner_can : Passing (λ d. owner_is p (at L d)) (above L e) → CanGrant L F p e r
          owner_can k = CanGrant.by_owning (above_in e k.it k.in_list) (owner_true L p k.it k.passes)

          option_true : Passing (opens L F p e r) F.rights → CanGrant L F p e r
          option_true t =
              let g : RightRecord = t.it in
              let k = and_right _ _ t.passes in
              let l = and_right _ _ k in
              by_option (Memᴰ.cast (ap (λ x. right_record x e r true) (eqb→eq p g.principal (and_left _ _ t.passes))
              ∙ ap (λ x. right_record g.principal e x true) (right_eq r g.right (and_left _ _ k))
              ∙ ap (λ x. right_record g.principal x g.right true) (eqb→eq e g.entity (and_left _ _ l))
              ∙ ap (right_record g.principal g.entity g.right) (sym (passed g.option (and_right _ _ l)))) t.in_list)

      true_can : {p : ℕ} → CanGrant L F p e r → T (canᵇ L F e (above L e) r p)
      true_can {p} (by_option m) =
          or_right _ _
          (some_any _ (right_record p e r true) m
          (and_both _ _ (eqb_refl p) (and_both _ _ (eqb_refl (right_number r)) (and_both _ _ (eqb_refl e) tt))))
      true_can {p} (CanGrant.by_owning {d} w o) = or_left _ _ (some_any _ d (in_above w) (true_owner L o))

      pub holds_true : (a : ℕ) → T (holdsᵇ L F a e r) → Holds L F a e r
      holds_true a h = go (any_some _ _ h)
        where
          at_one : (p : ℕ) → p ∈ principals L F a → Has L F p e r → Holds L F a e r
          at_one p (Memᴰ.head q) k = Holds.itself (subst (λ x. Has L F x e r) q k)
          at_one p (Memᴰ.tail m) k = Holds.in_role (of_role a p m) k

          go : Passing (hasᵇ L F (above L e) r) (principals L F a) → Holds L F a e r
          go t = at_one t.it t.in_list (has_true t.it t.passes)

      pub true_holds : {a : ℕ} → Holds L F a e r → T (holdsᵇ L F a e r)
      true_holds {a} (Holds.itself h) = some_any _ a (Memᴰ.head refl) (true_has h)
      true_holds {a} (Holds.in_role {q} b h) = some_any _ q (in_principals b) (true_has h)

      pub may_true : (a : ℕ) → T (mayᵇ L F a e r) → MayGrant L F a e r
      may_true a h = go (any_some _ _ h)
        where
          at_one : (p : ℕ) → p ∈ principals L F a → CanGrant L F p e r → MayGrant L F a e r
          at_one p (Memᴰ.head q) k = MayGrant.itself (subst (λ x. CanGrant L F x e r) q k)
          at_one p (Memᴰ.tail m) k = MayGrant.in_role (of_role a p m) k

          go : Passing (canᵇ L F e (above L e) r) (principals L F a) → MayGrant L F a e r
          go t = at_one t.it t.in_list (can_true t.it t.passes)

      pub true_may : {a : ℕ} → MayGrant L F a e r → T (mayᵇ L F a e r)
      true_may {a} (MayGrant.itself h) = some_any _ a (Memᴰ.head refl) (true_can h)
      true_may {a} (MayGrant.in_role {q} b h) = some_any _ q (in_principals b) (true_can h)

    pub plant_true : (x : Object) → T (plantᵇ L F x) → Plantable L F x
    plant_true x h = go (any_some _ _ h)
      where
        go : Passing (λ a. holdsᵇ L F a (place_of x) Alter) F.acted → Plantable L F x
        go t = record { planter = t.it; acted = t.in_list; holds = holds_true (place_of x) Alter t.it t.passes }

    pub true_plant : (x : Object) → Plantable L F x → T (plantᵇ L F x)
    true_plant x p = some_any _ p.planter p.acted (true_holds (place_of x) Alter p.holds)

    pub one_owner_true : (x y : Object) → T (ownerᵇ L F x y) → OneOwner L x y
    one_owner_true x y h = go (slice_get L.entities (place_of x)) refl
      where
        go : (o : Option Entity) → slice_get L.entities (place_of x) ≡ o → OneOwner L x y
        go None p = absurd (subst (λ o. T (one_owner o (at L (place_of y)))) p h)
        go (Some z) p = record {
          owner = z.owner;
          first = record { entity = z; there = p; owner = refl };
          second = owner_true L z.owner (place_of y) (subst (λ o. T (one_owner o (at L (place_of y)))) p h);
        }

    pub true_one_owner : (x y : Object) → OneOwner L x y → T (ownerᵇ L F x y)
    true_one_owner x y o =
        subst (λ z. T (one_owner z (at L (place_of y)))) (sym o.first.there)
        (subst (λ n. T (owner_is n (at L (place_of y)))) (sym o.first.owner) (true_owner L o.second))

    pub does_true : (x : Object) (w : ℕ) (t : Action) → T (doesᵇ L F x w t) → MayDo L F x w t
    does_true x w (action.Call y) h =
        elim (or_cases _ _ h) [ inl k ↦ by_owner (one_owner_true x y k) | inr k ↦ by_right (holds_true (place_of y) (entry_right y) w k) ]
    does_true x w (action.Grant g) h = by_grant (may_true g.entity g.right w h)
    does_true x w (action.Join m) h = by_alter (holds_true m.role Alter w h)

    pub true_does : (x : Object) (w : ℕ) (t : Action) → MayDo L F x w t → T (doesᵇ L F x w t)
    true_does x w t (by_right {y} h) = or_right _ _ (true_holds (place_of y) (entry_right y) h)
    true_does x w t (by_owner {y} o) = or_left _ _ (true_one_owner x y o)
    true_does x w t (by_grant {g} h) = true_may g.entity g.right h
    true_does x w t (by_alter {m} h) = true_holds m.role Alter h
