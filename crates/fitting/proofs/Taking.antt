-- What holds of each element that is taken from a list.
use Rattle.std.proofs.Common.{ℕ, ◌+◌, ◌<◌, ◌≤◌, List, [], ◌∷◌, ◌++◌, length, get_or, take, sym, subst, ⊎_elim}
use Rattle.std.proofs.lemmas.List.{take_more, take_all}
use mathlib.Core.List.Memᴰ
use Rattle.access.specs.Lists.{◌∈◌}
use Rattle.runs.specs.Limits.{Each}

of_only : {A : Type 0} (P : A → Type 0) {x y : A} → P y → x ∈ (y ∷ []) → P x
of_only P p (Memᴰ.head e) = subst P (sym e) p
of_only P p (Memᴰ.tail m) = elim m [ ]

each_more : {A : Type 0} (P : A → Type 0) (xs : List A) {y : A} → Each P xs → P y → Each P (xs ++ y ∷ [])
each_more P xs f p x m = ⊎_elim (f x) (of_only P p) (Memᴰ.append_cases xs m)

-- what holds of each element that was taken, and of the next one, holds of each with one more
pub taken_more : {A : Type 0} (P : A → Type 0) (xs : List A) (i : ℕ) (d : A) → i < length xs
    → Each P (take i xs) → P (get_or xs i d) → Each P (take (i + 1) xs)
taken_more P xs i d h f p = rw (take_more xs i d h) (each_more P (take i xs) f p)

pub all_taken : {A : Type 0} (P : A → Type 0) (xs : List A) (i : ℕ) → length xs ≤ i → Each P (take i xs) → Each P xs
all_taken P xs i h f = rw (take_all i xs h) at f
