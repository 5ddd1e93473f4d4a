-- Laws of the order of roles: the test is the relation, and links that close no circle give an order.
use Rattle.std.proofs.Common.{◌+◌, ◌<◌, ◌≤◌, length, get_or, drop, ◌≡◌, ℕ, Bool, true, false, ◌&&◌, ◌||◌, eqb, ◌⊎◌, List, [], ◌∷◌, ◌++◌, Decides, sym, refl, ap, ◌∙◌, subst, inl, inr, ⊎_elim, append_assoc, append-nil, arith}
use mathlib.Core.List.Memᴰ
use mathlib.Core.List.{Memᴰ}
use Rattle.std.proofs.lemmas.List.{drop_more, at_drop_all}
use Rattle.std.proofs.lemmas.Bool.Decides.{Decides-at, Decides-like, Decides-and, Decides-or, Decides-eqb, nat_tests}
use denote.Enum.Bare.{sameb}
use Rattle.access.specs.contracts.entities.Kind.{the_type}
use Rattle.access.specs.declared.entities.Kind.{Kind}
use Rattle.access.specs.declared.entities.Kind.TheVariants.{Container, Table, Procedure, Account, Role}
use Rattle.access.specs.Lists.{◌∈◌, fits, is_role, sysadmin}
use Rattle.access.specs.Orders.{RoleBelow, joined_by, unlinked, role_below, LinkFits, Linked}
use Rattle.access.proofs.Turns.{turn_ind}
use Rattle.access.specs.declared.entities.Entity.{Entity}
use Rattle.access.specs.declared.roles.Link.{Link}

-- the two ends of each link are roles
abbrev pub RoleEnds : List Entity → List Link → Type 0
RoleEnds es links = (k : Link) → k ∈ links → (fits is_role es k.lower ≡ true) × (fits is_role es k.upper ≡ true)

-- the test of a kind, as code writes it
pub role_same : (k : Kind) → sameb the_type k Role ≡ is_role k
role_same Container = refl
role_same Table = refl
role_same Procedure = refl
role_same Account = refl
role_same Role = refl

-- a role with no links is at or below itself and sysadmin
pub role_alone : (es : List Entity) (k x y : ℕ) (s : Bool) → fits is_role es x ≡ true → s ≡ eqb y sysadmin → k ≡ x → (eqb y x || s) ≡ unlinked es k y
role_alone es k x y s r e q = grind (arith, nat_tests)

pub no_role : (es : List Entity) (k y : ℕ) → fits is_role es k ≡ false → unlinked es k y ≡ false
no_role es k y e = ap (λ b. b && (eqb k y || eqb y sysadmin)) e

-- one link more, put in last
pub joined_by_push : (b : ℕ → ℕ → Bool) (ks : List Link) (k : Link) (x y : ℕ)
    → joined_by b (ks ++ k ∷ []) x y ≡ (joined_by b ks x y || (joined_by b ks x k.lower && joined_by b ks k.upper y))
joined_by_push b [] k x y = refl
joined_by_push b (j ∷ ks) k x y = joined_by_push (λ x y. b x y || (b x j.lower && b j.upper y)) ks k x y

-- orders that agree also agree when links are put in
pub joined_by_same : (b c : ℕ → ℕ → Bool) (ks : List Link) → ((x y : ℕ) → b x y ≡ c x y) → (x y : ℕ) → joined_by b ks x y ≡ joined_by c ks x y
joined_by_same b c [] e x y = e x y
joined_by_same b c (k ∷ ks) e x y =
    joined_by_same _ _ ks (λ x y. ap (λ t. t || (b x k.lower && b k.upper y)) (e x y)
    ∙ ap (λ t. c x y || (t && b k.upper y)) (e x k.lower) ∙ ap (λ t. c x y || (c x k.lower && t)) (e k.upper y)) x y

-- the link at i is put in, and the others stay
pub links_step : (s t : ℕ → ℕ → Bool) (links : List Link) (i : ℕ) (d : Link) → i < length links
    → ((x y : ℕ) → t x y ≡ (s x y || (s x (get_or links i d).lower && s (get_or links i d).upper y)))
    → (x y : ℕ) → joined_by t (drop (i + 1) links) x y ≡ joined_by s (drop i links) x y
links_step s t links i d h rule x y =
    joined_by_same t _ (drop (i + 1) links) rule x y ∙ sym (ap (λ (ks : List Link). joined_by s ks x y) (drop_more links i d h))

module _ (es : List Entity) where
  -- a role, and where it leads with no links
  abbrev Alone : ℕ → ℕ → Type 0
  Alone x y = (fits is_role es x ≡ true) × ((x ≡ y) ⊎ (y ≡ sysadmin))

  alone_through : {x y z : ℕ} → Alone x y → Alone y z → Alone x z
  alone_through (h, p) (_, inr q) = (h, inr q)
  alone_through (h, inl p) (_, inl q) = (h, inl (p ∙ q))
  alone_through (h, inr p) (_, inl q) = (h, inr (sym q ∙ p))

  to_alone : {x y : ℕ} → RoleBelow es [] x y → Alone x y
  to_alone (RoleBelow.itself h) = (h, inl refl)
  to_alone (RoleBelow.linked m) = absurd (Memᴰ.not-nil m)
  to_alone (RoleBelow.to_sysadmin h) = (h, inr refl)
  to_alone (RoleBelow.through p q) = alone_through (to_alone p) (to_alone q)

  from_alone : {x y : ℕ} → Alone x y → RoleBelow es [] x y
  from_alone {x} (h, inl e) = subst (RoleBelow es [] x) e (RoleBelow.itself h)
  from_alone {x} (h, inr e) = subst (RoleBelow es [] x) (sym e) (RoleBelow.to_sysadmin h)

  same_test : (b : Bool) → Decides b (b ≡ true)
  same_test b = (λ t. t, λ t. t)

  unlinked_below : (x y : ℕ) → Decides (unlinked es x y) (RoleBelow es [] x y)
  unlinked_below x y =
      Decides-like _ from_alone to_alone
      (Decides-and (fits is_role es x) _ (same_test (fits is_role es x)) (Decides-or (eqb x y) (eqb y sysadmin) (Decides-eqb x y) (Decides-eqb y sysadmin)))

  -- x is at or below y without the link k, or by a step over k
  abbrev Over : List Link → Link → ℕ → ℕ → Type 0
  Over ls k x y = RoleBelow es ls x y ⊎ (RoleBelow es ls x k.lower × RoleBelow es ls k.upper y)

  module _ (ls : List Link) (k : Link) where
    over_through : {x y z : ℕ} → Over ls k x y → Over ls k y z → Over ls k x z
    over_through (inl p) (inl q) = inl (RoleBelow.through p q)
    over_through (inl p) (inr (q, r)) = inr (RoleBelow.through p q, r)
    over_through (inr (p, q)) (inl r) = inr (p, RoleBelow.through q r)
    over_through (inr (p, q)) (inr (r, s)) = inr (p, s)

    pub to_over : {x y : ℕ} → fits is_role es k.lower ≡ true → fits is_role es k.upper ≡ true → RoleBelow es (ls ++ k ∷ []) x y → Over ls k x y
    to_over l u (RoleBelow.itself h) = inl (RoleBelow.itself h)
    to_over l u (RoleBelow.linked m) =
        ⊎_elim (λ h. inl (RoleBelow.linked h))
        (λ h. subst (λ (i : Link). Over ls k i.lower i.upper) (sym (Memᴰ.eq_of_singleton h)) (inr (RoleBelow.itself l, RoleBelow.itself u)))
        (Memᴰ.append_cases ls m)
    to_over l u (RoleBelow.to_sysadmin h) = inl (RoleBelow.to_sysadmin h)
    to_over l u (RoleBelow.through p q) = over_through (to_over l u p) (to_over l u q)

    wider : {x y : ℕ} → RoleBelow es ls x y → RoleBelow es (ls ++ k ∷ []) x y
    wider (RoleBelow.itself h) = RoleBelow.itself h
    wider (RoleBelow.linked m) = RoleBelow.linked (Memᴰ.append_left (k ∷ []) m)
    wider (RoleBelow.to_sysadmin h) = RoleBelow.to_sysadmin h
    wider (RoleBelow.through p q) = RoleBelow.through (wider p) (wider q)

    pub from_over : {x y : ℕ} → Over ls k x y → RoleBelow es (ls ++ k ∷ []) x y
    from_over (inl p) = wider p
    from_over (inr (p, q)) =
        RoleBelow.through (wider p) (RoleBelow.through (RoleBelow.linked (Memᴰ.append_right ls (Memᴰ.head refl))) (wider q))

  -- a test of the order without some links becomes one of the order with them
  role_more : (ls ks : List Link) (old : ℕ → ℕ → Bool) → ((x y : ℕ) → Decides (old x y) (RoleBelow es ls x y)) → RoleEnds es ks
      → (x y : ℕ) → Decides (joined_by old ks x y) (RoleBelow es (ls ++ ks) x y)
  role_more ls [] old d r x y = subst (λ (t : List Link). Decides (old x y) (RoleBelow es t x y)) (sym (append-nil ls)) (d x y)
  role_more ls (k ∷ ks) old d r x y =
      let ends = r k (Memᴰ.head refl) in
      let new : ℕ → ℕ → Bool = λ x y. old x y || (old x k.lower && old k.upper y) in
      subst (λ (t : List Link). Decides (joined_by new ks x y) (RoleBelow es t x y)) (append_assoc ls (k ∷ []) ks)
      (role_more (ls ++ k ∷ []) ks new
      (λ x y. Decides-like _ (from_over ls k) (to_over ls k ends.0 ends.1)
      (Decides-or (old x y) _ (d x y) (Decides-and (old x k.lower) (old k.upper y) (d x k.lower) (d k.upper y))))
      (λ j m. r j (Memᴰ.tail m)) x y)

  pub ends_none : RoleEnds es []
  ends_none k m = absurd (Memᴰ.not-nil m)

  -- one link more of two roles
  pub ends_push : (ls : List Link) (k : Link) → RoleEnds es ls → LinkFits es ls k → RoleEnds es (ls ++ k ∷ [])
  ends_push ls k r f j m =
      ⊎_elim (r j)
      (λ new. subst (λ (i : Link). (fits is_role es i.lower ≡ true) × (fits is_role es i.upper ≡ true)) (sym (Memᴰ.eq_of_singleton new)) (f.0, f.1))
      (Memᴰ.append_cases ls m)

  -- no two roles are below each other
  abbrev Apart : List Link → Type 0
  Apart ls = (x y : ℕ) → RoleBelow es ls x y → RoleBelow es ls y x → x ≡ y

  apart_none : Apart []
  apart_none x y p q = go (to_alone p).1 (to_alone q).1
    where
      go : {x y : ℕ} → (x ≡ y) ⊎ (y ≡ sysadmin) → (y ≡ x) ⊎ (x ≡ sysadmin) → x ≡ y
      go (inl e) _ = e
      go (inr e) (inl f) = sym f
      go (inr e) (inr f) = f ∙ sym e

  apart_more : (ls : List Link) (k : Link) → Apart ls → LinkFits es ls k → Apart (ls ++ k ∷ [])
  apart_more ls k a (l, u, free) x y p q = go (to_over ls k l u p) (to_over ls k l u q)
    where
      go : {x y : ℕ} → Over ls k x y → Over ls k y x → x ≡ y
      go (inl p) (inl q) = a _ _ p q
      go (inl p) (inr (q, r)) = absurd (free (RoleBelow.through r (RoleBelow.through p q)))
      go (inr (p, q)) (inl r) = absurd (free (RoleBelow.through q (RoleBelow.through r p)))
      go (inr (p, q)) (inr (r, s)) = absurd (free (RoleBelow.through q r))

-- the test is the relation
pub role_below_lem : (es : List Entity) (links : List Link) → RoleEnds es links → (x y : ℕ) → Decides (role_below es links x y) (RoleBelow es links x y)
role_below_lem es links r = role_more es [] links (unlinked es) (unlinked_below es) r

pub linked_roles_lem : (es : List Entity) (links : List Link) → Linked es links → RoleEnds es links
linked_roles_lem es links t = turn_ind (LinkFits es) (RoleEnds es) (ends_push es) [] links (ends_none es) t

-- no link is left to be put in
module _ (es : List Entity) (links : List Link) (t : ℕ → ℕ → Bool) (i : ℕ) (l : length links ≤ i)
    (left : (x y : ℕ) → joined_by t (drop i links) x y ≡ role_below es links x y) where
  pub role_table : (x y : ℕ) → t x y ≡ role_below es links x y
  role_table x y = sym (at_drop_all (λ (ks : List Link). joined_by t ks x y) links i l) ∙ left x y

  pub role_exact : Linked es links → (x y : ℕ) → Decides (t x y) (RoleBelow es links x y)
  role_exact k x y = Decides-at _ _ (role_table x y) (role_below_lem es links (linked_roles_lem es links k) x y)

-- links that close no circle leave no two roles below each other
pub role_antisymmetric : (es : List Entity) (links : List Link) → Linked es links → (x y : ℕ) → RoleBelow es links x y → RoleBelow es links y x → x ≡ y
role_antisymmetric es links t = turn_ind (LinkFits es) (Apart es) (apart_more es) [] links (apart_none es) t
