-- What is noted of the entities that are at or in others.
use Rattle.std.proofs.Common.{◌≡◌, ℕ, ◌+◌, ◌<◌, ◌≤◌, Bool, false, ◌&&◌, ◌||◌, eqb, ltb, List, length, Decides, sym, ap, ◌∙◌, subst, ⊎_elim, arith}
use Rattle.std.proofs.lemmas.Bool.{both_ways, or_cases, or_left, or_right, and_parts, and_from, eqb-true, eq-eqb, lt-ltb, cases_lt}
use Rattle.std.proofs.lemmas.Bool.Decides.{Decides-like}
use Rattle.access.specs.declared.entities.Entity.{Entity}
use Rattle.access.specs.Lists.{Lists}
use Rattle.access.specs.Orders.{Within}
use Rattle.order.proofs.TreeLaws.{below_stands, within_stands}
use Rattle.catalogue.specs.Sound.{Sound}
use Rattle.session.specs.declared.models.Model.{Model}
use Rattle.session.specs.Models.{lists_of}
use Rattle.session.proofs.Copying.{sound_few}
use Rattle.session.proofs.Readiness.{ready}
use Rattle.session.proofs.Rowing.{place_small}

-- a model has at most 96 entities
pub few_entities : (m : Model) (es : List Entity) → es ≡ (lists_of m).entities → length es ≤ 96
few_entities m es e = omega (arith, ap length e, sound_few (lists_of m) (ready m).sound)

-- what nothing is noted of
pub noted_none : (P : Type 0) (b : Bool) (e : ℕ) → b ≡ false → Decides b ((e < 0) × P)
noted_none P b e h = (λ t. absurd (both_ways b h t), λ p. absurd (let l = p.0 in omega arith))

-- one entity more is noted in what it is in
pub noted_more : (L : Lists) → Sound L → (d e x : ℕ) (old new above : Bool) → new ≡ (old || (above && (ltb d 96 && eqb e x)))
    → Decides above (Within L.entities x d) → Decides old ((e < x) × Within L.entities e d) → Decides new ((e < x + 1) × Within L.entities e d)
noted_more L s d e x old new above n a o = (
  λ t. ⊎_elim
      (λ h. let p = o.0 h in (let l = p.0 in omega arith, p.1))
      (λ h. let p = and_parts above _ h in
      let same : e ≡ x = eqb-true e x (and_parts (ltb d 96) (eqb e x) p.1).1 in
      (omega arith, subst (λ z. Within L.entities z d) (sym same) (a.0 p.0)))
      (or_cases old _ (sym n ∙ t)),
  λ p. n ∙ ⊎_elim
      (λ (l : e < x). or_left _ _ (o.1 (l, p.1)))
      (λ (l : x ≤ e).
      let below = p.0 in
      let same : e ≡ x = omega arith in
      or_right old _ (and_from _ _ (a.1 (subst (λ z. Within L.entities z d) same p.1)) (and_from _ _ (lt-ltb d 96 (place_small L s p.1)) (eq-eqb e x same))))
      (cases_lt e x),
)

-- all entities are noted
pub noted_all : (L : Lists) (d e n : ℕ) (b : Bool) → length L.entities ≤ n → Decides b ((e < n) × Within L.entities e d) → Decides b (Within L.entities e d)
noted_all L d e n b h t =
    Decides-like b (λ p. p.1) (λ w. (let l = below_stands L.entities e (within_stands L.entities w) in omega arith, w)) t
