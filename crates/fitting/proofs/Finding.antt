-- Membership in a list, and in one that is put before another.
use Rattle.std.proofs.Common.{ℕ, zero, suc, ◌<◌, ◌⊎◌, List, [], ◌∷◌, length, get_or, Contains, sym, refl, subst, inl, inr, ⊎_elim, arith}
use mathlib.Core.List.Memᴰ
use Rattle.access.specs.Lists.{◌∈◌}
use Rattle.session.specs.Reached.{before}

pub at_in : {A : Type 0} (xs : List A) (i : ℕ) (d : A) → i < length xs → get_or xs i d ∈ xs
at_in [] i d h = absurd (omega arith)
at_in (x ∷ xs) zero d h = Memᴰ.head refl
at_in (x ∷ xs) (suc i) d h = Memᴰ.tail (at_in xs i d (omega arith))

-- a list contains what is in it
pub listed_in : {A : Type 0} (xs : List A) (x : A) → Contains xs x → x ∈ xs
listed_in xs x (k, h, e) = subst (λ y. y ∈ xs) e (at_in xs k x h)

pub in_listed : {A : Type 0} {x : A} (xs : List A) → x ∈ xs → Contains xs x
in_listed [] m = elim m [ ]
in_listed (z ∷ xs) (Memᴰ.head e) = (0, omega arith, sym e)
in_listed (z ∷ xs) (Memᴰ.tail m) = let (k, h, e) = in_listed xs m in (suc k, omega arith, e)

module _ {A : Type 0} {x : A} where
  pub last_in : (xs ys : List A) → x ∈ ys → x ∈ before xs ys
  last_in [] ys m = m
  last_in (z ∷ xs) ys m = last_in xs (z ∷ ys) (Memᴰ.tail m)

  pub first_in : (xs ys : List A) → x ∈ xs → x ∈ before xs ys
  first_in [] ys m = elim m [ ]
  first_in (z ∷ xs) ys (Memᴰ.head e) = last_in xs (z ∷ ys) (Memᴰ.head e)
  first_in (z ∷ xs) ys (Memᴰ.tail m) = first_in xs (z ∷ ys) m

  second : (z : A) (xs ys : List A) → (x ∈ xs) ⊎ (x ∈ (z ∷ ys)) → (x ∈ (z ∷ xs)) ⊎ (x ∈ ys)
  second z xs ys (inl m) = inl (Memᴰ.tail m)
  second z xs ys (inr (Memᴰ.head e)) = inl (Memᴰ.head e)
  second z xs ys (inr (Memᴰ.tail m)) = inr m

  pub from_before : (xs ys : List A) → x ∈ before xs ys → (x ∈ xs) ⊎ (x ∈ ys)
  from_before [] ys m = inr m
  from_before (z ∷ xs) ys m = second z xs ys (from_before xs (z ∷ ys) m)

  pub from_alone : (xs : List A) → x ∈ before xs [] → x ∈ xs
  from_alone xs m = ⊎_elim (λ n. n) (λ n. elim n [ ]) (from_before xs [] m)

pub listed_before : {A : Type 0} (xs : List A) (x : A) → Contains xs x → x ∈ before xs []
listed_before xs x c = first_in xs [] (listed_in xs x c)

pub before_listed : {A : Type 0} {x : A} (xs : List A) → x ∈ before xs [] → Contains xs x
before_listed xs m = in_listed xs (from_alone xs m)

-- a list contains what is in it, put before no other or alone
pub ruleset listed = (listed_in, in_listed, listed_before, before_listed)
