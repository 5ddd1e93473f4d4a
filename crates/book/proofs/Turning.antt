-- One call more of a list of calls, and the end of the list.
use Rattle.std.proofs.Common.{◌≡◌, ℕ, zero, suc, ◌+◌, ◌<◌, ◌≤◌, List, [], ◌∷◌, length, take, set, is_some, Some, sym, refl, ap, ◌∙◌, subst, arith, below_more}
use Rattle.std.specs.List.{slice_get}
use Rattle.catalogue.proofs.Standing.{nth_below}
use Rattle.book.specs.Turns.{EachTurn}

module _ {X : Type 0} where
  nth_set_same : (xs : List X) (i : ℕ) (x : X) → i < length xs → slice_get (set xs i x) i ≡ Some x
  nth_set_same [] i x h = let no : ⊥ = omega arith in absurd no
  nth_set_same (y ∷ ys) zero x h = refl
  nth_set_same (y ∷ ys) (suc i) x h = nth_set_same ys i x (omega arith)

  nth_set_other : (xs : List X) (i k : ℕ) (x : X) → k < i → slice_get (set xs i x) k ≡ slice_get xs k
  nth_set_other [] i k x h = refl
  nth_set_other (y ∷ ys) zero k x h = let no : ⊥ = omega arith in absurd no
  nth_set_other (y ∷ ys) (suc i) zero x h = refl
  nth_set_other (y ∷ ys) (suc i) (suc k) x h = nth_set_other ys i k x (omega arith)

module _ {C A : Type 0} (returns : List C → C → A → Type 0) (calls : List C) where
  -- the answers to the calls before a number
  abbrev pub Turned : List A → ℕ → Type 0
  Turned answers i = (k : ℕ) → k < i → (c : C) (a : A) → slice_get calls k ≡ Some c → slice_get answers k ≡ Some a → returns (take k calls) c a

  pub turned_more : (answers : List A) (i : ℕ) (x : C) (r : A) → i < length answers → slice_get calls i ≡ Some x → returns (take i calls) x r
      → Turned answers i → Turned (set answers i r) (i + 1)
  turned_more answers i x r h at t before =
      below_more (λ k. (c : C) (a : A) → slice_get calls k ≡ Some c → slice_get (set answers i r) k ≡ Some a → returns (take k calls) c a) i
      (λ k low c a e f. before k low c a e (sym (nth_set_other answers i k r low) ∙ f))
      (λ c a e f.
      let call : Some x ≡ Some c = sym at ∙ e in
      let answer : Some r ≡ Some a = sym (nth_set_same answers i r h) ∙ f in
      let same : x ≡ c = cc in
      let also : r ≡ a = cc in
      subst (λ y. returns (take i calls) y a) same (subst (returns (take i calls) x) also t))

  pub turned_all : (answers : List A) (i : ℕ) → length calls ≤ i → Turned answers i → EachTurn returns calls answers
  turned_all answers i past t k c a e f =
      let low : k < length calls = nth_below calls k (ap is_some e) in
      t k (omega arith) c a e f
