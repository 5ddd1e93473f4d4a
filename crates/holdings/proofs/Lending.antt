-- What the roles below a role have.
use Rattle.std.proofs.Common.{◌≡◌, ℕ, ◌+◌, ◌<◌, ◌≤◌, Bool, false, ◌&&◌, ◌||◌, ltb, length, Decides, sym, ap, ◌∙◌, subst, ⊎_elim, arith}
use Rattle.std.proofs.lemmas.Bool.{both_ways, or_cases, or_left, or_right, and_parts, and_from, lt-ltb, cases_lt}
use Rattle.access.specs.Lists.{Lists}
use Rattle.access.specs.Orders.{RoleBelow}
use Rattle.order.proofs.TreeLaws.{below_stands}
use Rattle.catalogue.specs.Sound.{Sound}
use Rattle.runs.proofs.Grounds.{is_stands, few}
use Rattle.runs.proofs.Ordering.{two_orders}
use Rattle.holdings.specs.Giving.{Lent}

-- roles have numbers below 96
pub role_stands : (L : Lists) → Sound L → {q r : ℕ} → RoleBelow L.entities L.links q r → (q < length L.entities) × (r < length L.entities)
role_stands L s {q} {r} b =
    let two = (two_orders L s).0.between q r b in
    (below_stands L.entities q (is_stands L two.0), below_stands L.entities r (is_stands L two.1))

module _ (L : Lists) (base : ℕ → ℕ → ℕ → Bool) where
  pub lent_none : (q k e : ℕ) (b : Bool) → b ≡ false → Decides b (Lent L base 0 q k e)
  lent_none q k e b h = (λ t. absurd (both_ways b h t), λ p. absurd (let l = p.small in omega arith))

  pub lent_all : (m n q k e : ℕ) (b : Bool) → m ≡ n → Decides b (Lent L base n q k e) → Decides b (Lent L base m q k e)
  lent_all m n q k e b h d = subst (λ z. Decides b (Lent L base z q k e)) (sym h) d

-- one role more gives what it has to the roles above it
pub lent_more : (L : Lists) → Sound L → (base : ℕ → ℕ → ℕ → Bool) (x q k e : ℕ) (old new above : Bool)
    → new ≡ (old || (above && (ltb q 96 && base x k e))) → Decides above (RoleBelow L.entities L.links x q) → Decides old (Lent L base x q k e)
    → Decides new (Lent L base (x + 1) q k e)
lent_more L s base x q k e old new above n a o = (
  λ t. ⊎_elim
      (λ h. let p = o.0 h in record { role = p.role; small = let l = p.small in omega arith; below = p.below; has = p.has })
      (λ h. let p = and_parts above _ h in
      record { role = x; small = omega arith; below = a.0 p.0; has = (and_parts (ltb q 96) (base x k e) p.1).1 })
      (or_cases old _ (sym n ∙ t)),
  λ p. n ∙ ⊎_elim
      (λ (l : p.role < x). or_left _ _ (o.1 (record { role = p.role; small = l; below = p.below; has = p.has })))
      (λ (l : x ≤ p.role).
      let below = p.small in
      let same : p.role ≡ x = omega arith in
      let most = few L s in
      let stands = (role_stands L s p.below).1 in
      or_right old _
      (and_from _ _ (a.1 (subst (λ z. RoleBelow L.entities L.links z q) same p.below))
      (and_from _ _ (lt-ltb q 96 (omega arith)) (ap (λ (z : ℕ). base z k e) (sym same) ∙ p.has))))
      (cases_lt p.role x),
)
