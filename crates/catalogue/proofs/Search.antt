-- The library's search for a position is that of tables. Assumes nothing.
use Rattle.std.proofs.Common.{◌≡◌, ℕ, suc, ◌+◌, Bool, true, false, cond, List, [], ◌∷◌, Some, None, Option, refl, ap, ◌∙◌, arith, zero-add}
use Rattle.std.specs.List.{position as found, position_from}
use Rattle.std.specs.Option.{option_map}
use Rattle.std.proofs.lemmas.Iterator.Adapters.{position_from-zero}
use Rattle.catalogue.specs.Tables.{position}

moved : (i : ℕ) (o : Option ℕ) → option_map (λ k. (i + 1) + k) o ≡ option_map (λ k. i + k) (option_map suc o)
moved i None = refl
moved i (Some n) = ap Some (omega arith)

unmoved : (o : Option ℕ) → option_map (λ k. 0 + k) o ≡ o
unmoved None = refl
unmoved (Some n) = ap Some (zero-add n)

first : (i : ℕ) (b : Bool) (p q : Option ℕ) → p ≡ option_map (λ k. i + k) (option_map suc q) → cond b (Some i) p ≡ option_map (λ k. i + k) (cond b (Some 0) (option_map suc q))
first i true p q e = ap Some (omega arith)
first i false p q e = e

module _ {X : Type 0} where
  shifted : (test : X → Bool) (i : ℕ) (xs : List X) → position_from test i xs ≡ option_map (λ k. i + k) (position test xs)
  shifted test i [] = refl
  shifted test i (x ∷ xs) = first i (test x) _ (position test xs) (shifted test (i + 1) xs ∙ moved i (position test xs))

  pub position_found : (test : X → Bool) (xs : List X) → found test xs ≡ position test xs
  position_found test xs = position_from-zero test xs ∙ shifted test 0 xs ∙ unmoved (position test xs)
