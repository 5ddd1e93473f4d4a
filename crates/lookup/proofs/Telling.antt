-- Tests that tell what is in a list, once there is one element more, or none was there before.
use Rattle.std.proofs.Common.{◌≡◌, Bool, true, false, ◌||◌, List, [], ◌∷◌, Decides, sym, refl, ap, ◌∙◌, subst, ⊎_elim}
use mathlib.Core.List.Memᴰ
use Rattle.std.specs.List.{list_any}
use Rattle.std.proofs.lemmas.Bool.{both_ways, or_cases, or_left, or_right}
use Rattle.access.specs.Lists.{◌∈◌}
use Rattle.runs.specs.States.{Sub}

module _ {A : Type 0} (p : A → Bool) where
  pub any_gives : (xs : List A) → list_any p xs ≡ true → (x : A) × (x ∈ xs) × (p x ≡ true)
  any_gives [] e = absurd (both_ways _ refl e)
  any_gives (y ∷ xs) e =
      ⊎_elim (λ h. (y, Memᴰ.head refl, h)) (λ h. let (x, m, t) = any_gives xs h in (x, Memᴰ.tail m, t)) (or_cases (p y) (list_any p xs) e)

  pub any_from : {x : A} {xs : List A} → x ∈ xs → p x ≡ true → list_any p xs ≡ true
  any_from (Memᴰ.head e) h = or_left _ _ (ap p (sym e) ∙ h)
  any_from (Memᴰ.tail {x = y} m) h = or_right (p y) _ (any_from m h)

module _ {A : Type 0} {x y : A} {xs : List A} where
  either : {P : Type 0} → (x ≡ y → P) → (x ∈ xs → P) → x ∈ (y ∷ xs) → P
  either f g (Memᴰ.head e) = f e
  either f g (Memᴰ.tail m) = g m

  pub one_more : (old this new : Bool) → new ≡ (old || this) → Decides this (x ≡ y) → Decides old (x ∈ xs) → Decides new (x ∈ (y ∷ xs))
  one_more old this new n t o = (
    λ h. ⊎_elim (λ p. Memᴰ.tail (o.0 p)) (λ p. Memᴰ.head (t.0 p)) (or_cases old this (sym n ∙ h)),
    λ m. n ∙ either (λ e. or_right old this (t.1 e)) (λ i. or_left old this (o.1 i)) m,
  )

pub none_told : {A : Type 0} {x : A} (old : Bool) → old ≡ false → Decides old (x ∈ [])
none_told old o = (λ h. absurd (both_ways old o h), λ m. elim m [ ])

-- what is in a list adds nothing to it
pub in_sub : {A : Type 0} {y : A} {xs : List A} → y ∈ xs → Sub (y ∷ xs) xs
in_sub {y = y} {xs} m x (Memᴰ.head e) = subst (λ z. z ∈ xs) (sym e) m
in_sub m x (Memᴰ.tail n) = n

-- where nothing was told before, what a list tells
pub listed : {A : Type 0} (p : A → Bool) (x : A) (xs : List A) (old new : Bool) → old ≡ false → new ≡ (old || list_any p xs)
    → ((y : A) → Decides (p y) (x ≡ y)) → Decides new (x ∈ xs)
listed p x xs old new o n t = (
  λ h. ⊎_elim (λ b. absurd (both_ways old o b)) (λ b. let (y, m, e) = any_gives p xs b in subst (λ z. z ∈ xs) (sym ((t y).0 e)) m)
      (or_cases old (list_any p xs) (sym n ∙ h)),
  λ m. n ∙ or_right old (list_any p xs) (any_from p m ((t x).1 refl)),
)
