-- A table stays in order when a record is placed in it or changed in place.
use Rattle.std.proofs.Common.{◌≡◌, ℕ, zero, suc, ◌≤◌, Bool, true, false, cond, ltb, List, [], ◌∷◌, ◌++◌, length, set, Some, None, Option, Result, sym, refl, ap, ◌∙◌, subst, arith}
use Rattle.std.specs.List.{slice_get, AllByRecursion}
use Rattle.std.specs.Option.{option_map}
use Rattle.std.proofs.ByRecursion.{All-push, All-set, All-weaker}
use Rattle.std.proofs.lemmas.List.{length_push}
use Rattle.std.proofs.lemmas.Bool.{ltb-true, cond_both}
use Rattle.access.specs.Codes.{Code}
use Rattle.catalogue.specs.Tables.{position, placed_at, placed, Once}

pub nth_all : {X : Type 0} (P : X → Type 0) (xs : List X) (n : ℕ) (x : X) → slice_get xs n ≡ Some x → AllByRecursion P xs → P x
nth_all P [] n x e h = let z : ◌≡◌ {A = ℕ} 0 1 = cc in let no : ⊥ = omega arith in absurd no
nth_all P (y ∷ ys) zero x e h = let same : y ≡ x = cc in subst P same h.0
nth_all P (y ∷ ys) (suc n) x e h = nth_all P ys n x e h.1

first_none : (b : Bool) (o : Option ℕ) → cond b (Some 0) (option_map suc o) ≡ None → (b ≡ false) × (o ≡ None)
first_none true o e = let z : ◌≡◌ {A = ℕ} 0 1 = cc in let no : ⊥ = omega arith in absurd no
first_none false (Some n) e = let z : ◌≡◌ {A = ℕ} 0 1 = cc in let no : ⊥ = omega arith in absurd no
first_none false None e = (refl, refl)

module _ {X : Type 0} where
  -- a record that is like none that stands can come at the end
  pub once_push : (alike : X → X → Bool) (xs : List X) (x : X) → Once alike xs → position (λ y. alike y x) xs ≡ None → Once alike (xs ++ x ∷ [])
  once_push alike [] x h e = (tt, tt)
  once_push alike (y ∷ ys) x h e =
      let none = first_none (alike y x) (position (λ z. alike z x) ys) e in
      (All-push (λ z. alike y z ≡ false) ys x h.0 none.0, once_push alike ys x h.1 none.1)

  pub placed_once : (alike : X → X → Bool) (limit : ℕ) (xs : List X) (x : X) → Once alike xs → Once alike (placed alike limit xs x).1
  placed_once alike limit xs x h = go (position (λ y. alike y x) xs) refl
    where
      go : (o : Option ℕ) → position (λ y. alike y x) xs ≡ o → Once alike (placed_at limit o xs x).1
      go (Some n) e = h
      go None e =
          cond_both (ltb (length xs) limit) _ _ (λ (t : Result ℕ Code × List X). Once alike t.1) (λ _. once_push alike xs x h e) (λ _. h)

  pub placed_all : (P : X → Type 0) (alike : X → X → Bool) (limit : ℕ) (xs : List X) (x : X) → AllByRecursion P xs → P x → AllByRecursion P (placed alike limit xs x).1
  placed_all P alike limit xs x h p = go (position (λ y. alike y x) xs)
    where
      go : (o : Option ℕ) → AllByRecursion P (placed_at limit o xs x).1
      go (Some n) = h
      go None =
          cond_both (ltb (length xs) limit) _ _ (λ (t : Result ℕ Code × List X). AllByRecursion P t.1) (λ _. All-push P xs x h p) (λ _. h)

  pub placed_few : (alike : X → X → Bool) (limit : ℕ) (xs : List X) (x : X) → length xs ≤ limit → length (placed alike limit xs x).1 ≤ limit
  placed_few alike limit xs x h = go (position (λ y. alike y x) xs)
    where
      go : (o : Option ℕ) → length (placed_at limit o xs x).1 ≤ limit
      go (Some n) = h
      go None =
          cond_both (ltb (length xs) limit) _ _ (λ (t : Result ℕ Code × List X). length t.1 ≤ limit)
          (λ e. omega (arith, length_push xs x, ltb-true (length xs) limit e)) (λ _. h)

  -- a record is changed in place to one that is like the same records
  pub once_set : (alike : X → X → Bool) (xs : List X) (n : ℕ) (old new : X) → slice_get xs n ≡ Some old
      → ((y : X) → alike y new ≡ alike y old) → ((y : X) → alike new y ≡ alike old y) → Once alike xs → Once alike (set xs n new)
  once_set alike [] n old new e l r h = h
  once_set alike (y ∷ ys) zero old new e l r h =
      let same : y ≡ old = cc in
      (All-weaker (λ z. alike y z ≡ false) (λ z. alike new z ≡ false) (λ z f. r z ∙ ap (λ w. alike w z) (sym same) ∙ f) ys h.0, h.1)
  once_set alike (y ∷ ys) (suc n) old new e l r h = (
    All-set (λ z. alike y z ≡ false) ys n new (l y ∙ nth_all (λ z. alike y z ≡ false) ys n old e h.0) h.0,
    once_set alike ys n old new e l r h.1,
  )
