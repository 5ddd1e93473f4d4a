-- What every model keeps comes out of its ghost field.
use Rattle.std.proofs.Common.{◌≡◌, ℕ, zero, suc, ◌<◌, ◌≤◌, Bool, ◌⊎◌, List, is_some, Some, None, Decides, Option, refl, ap, subst, inl, inr, ⊎_elim, arith}
use Rattle.std.proofs.Math.Logic.{∥∥₁_elim, ∥∥₁_prop}
use Rattle.std.proofs.Props.{props}
use Rattle.std.specs.List.{slice_get}
use Rattle.std.proofs.lemmas.Bool.{both_ways, cases_Bool, cases_eq, cases_lt}
use Rattle.std.proofs.lemmas.Bool.Decides.{not_from_Decides}
use Rattle.access.specs.declared.entities.Entity.{Entity}
use Rattle.access.specs.Lists.{Lists}
use Rattle.access.specs.Orders.{RoleBelow, Within, Rooted, role_below}
use Rattle.order.proofs.RoleLaws.{role_below_lem, linked_roles_lem}
use Rattle.order.proofs.TreeLaws.{within_stands, within_le}
use Rattle.catalogue.specs.Sound.{Sound}
use Rattle.catalogue.proofs.Unique.{sound_out}
use Rattle.runs.proofs.Grounds.{rooted}
use Rattle.session.specs.declared.models.Model.{Model}
use Rattle.session.specs.Tabled.{Tabled}
use Rattle.session.specs.Models.{lists_of, Ready}

-- The tables

-- a test of what holds or does not
decides_out : {b : Bool} {P : Type 0} → P ⊎ (P → ⊥) → ∥ Decides b P ∥₁ → Decides b P
decides_out {b} (inl p) t = (λ _. p, λ _. ∥∥₁_elim t (hlevel props) (λ d. d.1 p))
decides_out {b} (inr n) t = (λ e. absurd (∥∥₁_elim t (hlevel props) (λ d. n (d.0 e))), λ p. absurd (n p))

module _ (es : List Entity) (low : Rooted es) where
  -- what is in another entity is so by its parent
  by_parent : {x y : ℕ} (p : Entity) → slice_get es x ≡ Some p → (x ≡ y → ⊥) → Within es x y → Within es p.parent y
  by_parent p e other (Within.itself h) = absurd (other refl)
  by_parent {y = y} p e other (Within.up {x = z} f w) = let same : z ≡ p = cc in subst (λ (u : Entity). Within es u.parent y) same w

  within_step : (x y : ℕ) → ((z : ℕ) → z < x → Within es z y ⊎ (Within es z y → ⊥)) → (o : Option Entity) → slice_get es x ≡ o
      → Within es x y ⊎ (Within es x y → ⊥)
  within_step x y lower None e = inr (λ w. both_ways _ (ap is_some e) (within_stands es w))
  within_step x y lower (Some p) e =
      ⊎_elim
      (λ (q : x ≡ y). inl (subst (Within es x) q (Within.itself (ap is_some e))))
      (λ (other : x ≡ y → ⊥).
      ⊎_elim
      (λ (l : p.parent < x). ⊎_elim (λ w. inl (Within.up e w)) (λ no. inr (λ w. no (by_parent p e other w))) (lower p.parent l))
      (λ (l : x ≤ p.parent). inr (λ w. other (let f = low x p e in let g = within_le es low w in omega arith)))
      (cases_lt p.parent x))
      (cases_eq x y)

  -- each entity below n is in y, or is not
  within_below : (n x y : ℕ) → x < n → Within es x y ⊎ (Within es x y → ⊥)
  within_below zero x y h = absurd (omega arith)
  within_below (suc n) x y h = within_step x y (λ z l. within_below n z y (omega arith)) (slice_get es x) refl

role_cases : (L : Lists) → Sound L → (x y : ℕ) → RoleBelow L.entities L.links x y ⊎ (RoleBelow L.entities L.links x y → ⊥)
role_cases L s x y =
    let d = role_below_lem L.entities L.links (linked_roles_lem L.entities L.links s.links.linked) x y in
    ⊎_elim (λ t. inl (d.0 t)) (λ f. inr (not_from_Decides (role_below L.entities L.links x y) d f)) (cases_Bool (role_below L.entities L.links x y))

tabled_out : (L : Lists) (places roles : List ℕ) → ∥ Tabled L places roles ∥₁ → Tabled L places roles
tabled_out L places roles t =
    let s = sound_out L (∥∥₁_elim t ∥∥₁_prop (λ k. ∣ k.sound ∣₁)) in
    record {
      sound = s;
      places = λ x y. decides_out (within_below L.entities (rooted L s) (suc x) x y (omega arith)) (∥∥₁_elim t ∥∥₁_prop (λ k. ∣ k.places x y ∣₁));
      roles = λ x y. decides_out (role_cases L s x y) (∥∥₁_elim t ∥∥₁_prop (λ k. ∣ k.roles x y ∣₁));
    }

-- every model is ready
pub ready : (m : Model) → Ready m
ready m = tabled_out (lists_of m) m.places.relation.rows m.roles.relation.rows m.ready
