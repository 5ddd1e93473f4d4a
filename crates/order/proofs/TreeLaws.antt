-- Laws of `Within`, and of rows that decide it.
use Rattle.std.proofs.Common.{◌≡◌, ℕ, ◌+◌, ◌<◌, ◌≤◌, true, ◌&&◌, ◌||◌, eqb, ltb, ◌⊎◌, List, length, is_some, Some, Decides, sym, refl, ap, ◌∙◌, subst, inl, inr, ⊎_elim, arith}
use Rattle.std.specs.List.{slice_get}
use Rattle.std.proofs.lemmas.Option.{slice_get_cases}
use Rattle.std.proofs.lemmas.Bool.{cases_eq, cases_lt, ltb-true}
use Rattle.std.proofs.lemmas.Bool.Decides.{Decides-at, Decides-like, Decides-and, Decides-or, Decides-eqb, nat_tests}
use Rattle.access.specs.Lists.{stands}
use Rattle.access.specs.Orders.{Within, Rooted}
use Rattle.access.specs.declared.entities.Entity.{Entity}
use Rattle.order.specs.Rows.{leq}

-- an entity stands at each number below their count
pub stands_is : (es : List Entity) (x : ℕ) → stands es x ≡ ltb x (length es)
stands_is es x = grind (arith, nat_tests, slice_get_cases es x)

pub below_stands : (es : List Entity) (x : ℕ) → stands es x ≡ true → x < length es
below_stands es x t = ltb-true x (length es) (sym (stands_is es x) ∙ t)

module _ (es : List Entity) where
  pub within_through : {x y z : ℕ} → Within es x y → Within es y z → Within es x z
  within_through (Within.itself h) q = q
  within_through (Within.up e p) q = Within.up e (within_through p q)

  -- only what stands is in something
  pub within_stands : {x y : ℕ} → Within es x y → stands es x ≡ true
  within_stands (Within.itself h) = h
  within_stands (Within.up e p) = ap is_some e

  -- y is x, or the parent of x is in y
  within_split : {x y : ℕ} → Within es x y → (x ≡ y) ⊎ ((e : Entity) × (slice_get es x ≡ Some e) × Within es e.parent y)
  within_split (Within.itself h) = inl refl
  within_split (Within.up {x = e} p q) = inr (e, p, q)

  module _ (rooted : Rooted es) where
    pub within_le : {x y : ℕ} → Within es x y → y ≤ x
    within_le (Within.itself h) = omega arith
    within_le {x} (Within.up {x = e} p q) = let r = within_le q in let f = rooted x e p in omega arith

    pub within_antisymmetric : (x y : ℕ) → Within es x y → Within es y x → x ≡ y
    within_antisymmetric x y p q = let a = within_le p in let b = within_le q in omega arith

-- a row more: the entity at i gets its own bit and the row of its parent
module _ (es : List Entity) (rooted : Rooted es) (i : ℕ) (e : Entity) (at : slice_get es i ≡ Some e) (old new : List ℕ)
    (done : (k y : ℕ) → Decides (leq old k y) ((k < i) × Within es k y))
    (row : (k y : ℕ) → leq new k y ≡ (leq old k y || (eqb k i && (eqb y i || leq old e.parent y)))) where
  -- the test as it is written
  abbrev Seen : ℕ → ℕ → Type 0
  Seen k y = ((k < i) × Within es k y) ⊎ ((k ≡ i) × ((y ≡ i) ⊎ ((e.parent < i) × Within es e.parent y)))

  from_seen : {k y : ℕ} → Seen k y → (k < i + 1) × Within es k y
  from_seen (inl (h, w)) = (omega arith, w)
  from_seen {k} {y} (inr (q, inl r)) = (omega arith, subst (λ (z : ℕ). Within es z y) (sym q) (subst (Within es i) (sym r) (Within.itself (ap is_some at))))
  from_seen {k} {y} (inr (q, inr (h, w))) = (omega arith, subst (λ (z : ℕ). Within es z y) (sym q) (Within.up at w))

  same : (d : Entity) → slice_get es i ≡ Some d → d ≡ e
  same d f = cc

  seen_own : {y : ℕ} → Within es i y → (y ≡ i) ⊎ ((e.parent < i) × Within es e.parent y)
  seen_own {y} w =
      ⊎_elim (λ r. inl (sym r))
      (λ (d, f, q).
      let to : Within es e.parent y = subst (λ (z : Entity). Within es z.parent y) (same d f) q in
      ⊎_elim (λ (h : e.parent < i). inr (h, to))
      (λ (h : i ≤ e.parent). let low = rooted i e at in let le = within_le es rooted to in inl (omega arith))
      (cases_lt e.parent i))
      (within_split es w)

  to_seen : {k y : ℕ} → (k < i + 1) × Within es k y → Seen k y
  to_seen {k} {y} (h, w) =
      ⊎_elim (λ (q : k ≡ i). inr (q, seen_own (subst (λ (z : ℕ). Within es z y) q w))) (λ ne. inl (omega arith, w)) (cases_eq k i)

  pub place_step : (k y : ℕ) → Decides (leq new k y) ((k < i + 1) × Within es k y)
  place_step k y =
      Decides-at _ _ (row k y) (Decides-like _ from_seen to_seen
      (Decides-or (leq old k y) _ (done k y)
      (Decides-and (eqb k i) _ (Decides-eqb k i) (Decides-or (eqb y i) _ (Decides-eqb y i) (done e.parent y)))))
