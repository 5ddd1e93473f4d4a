-- The accounts among the first entities.
use Rattle.std.proofs.Common.{◌≡◌, ℕ, zero, suc, ◌+◌, ◌≤◌, ◌<◌, true, false, cond, List, [], ◌∷◌, ◌++◌, length, ap, ◌∙◌, ⊎_elim, arith}
use Rattle.std.proofs.lemmas.List.{append-nil, length-append}
use Rattle.std.proofs.lemmas.Bool.{cases_Bool, cases_lt}
use Rattle.access.specs.declared.entities.Entity.{Entity}
use Rattle.access.specs.Lists.{fits, is_account}
use Rattle.listing.specs.Listings.{accounts_below}

module _ (es : List Entity) (n : ℕ) where
  one_more : accounts_below es (n + 1) ≡ accounts_below es n ++ cond (fits is_account es n) (n ∷ []) []
  one_more = let e : n + 1 ≡ suc n = omega arith in ap (accounts_below es) e

  pub below_yes : fits is_account es n ≡ true → accounts_below es (n + 1) ≡ accounts_below es n ++ n ∷ []
  below_yes h = one_more ∙ ap (λ b. accounts_below es n ++ cond b (n ∷ []) []) h

  pub below_no : fits is_account es n ≡ false → accounts_below es (n + 1) ≡ accounts_below es n
  below_no h = one_more ∙ ap (λ b. accounts_below es n ++ cond b (n ∷ []) []) h ∙ append-nil (accounts_below es n)

  pub long_yes : fits is_account es n ≡ true → length (accounts_below es (n + 1)) ≡ length (accounts_below es n) + 1
  long_yes h = ap length (below_yes h) ∙ length-append (accounts_below es n) (n ∷ [])

  pub long_no : fits is_account es n ≡ false → length (accounts_below es (n + 1)) ≡ length (accounts_below es n)
  long_no h = ap length (below_no h)

  pub below_more : length (accounts_below es n) ≤ length (accounts_below es (n + 1))
  below_more = omega (arith, ap length one_more, length-append (accounts_below es n) (cond (fits is_account es n) (n ∷ []) []))

  pub below_one : length (accounts_below es (n + 1)) ≤ length (accounts_below es n) + 1
  below_one =
      ⊎_elim (λ t. omega (arith, long_yes t)) (λ f. omega (arith, long_no f)) (cases_Bool (fits is_account es n))

pub below_long : (es : List Entity) (n : ℕ) → length (accounts_below es n) ≤ n
below_long es zero = omega arith
below_long es (suc n) =
    let e : n + 1 ≡ suc n = omega arith in
    omega (arith, ap (λ k. length (accounts_below es k)) e, below_one es n, below_long es n)

-- more entities have no fewer accounts
pub below_grows : (es : List Entity) (i n : ℕ) → i ≤ n → length (accounts_below es i) ≤ length (accounts_below es n)
below_grows es i zero h = let e : i ≡ 0 = omega arith in omega (arith, ap (λ k. length (accounts_below es k)) e)
below_grows es i (suc n) h =
    ⊎_elim
    (λ (l : i < suc n).
    let e : n + 1 ≡ suc n = omega arith in
    omega (arith, ap (λ k. length (accounts_below es k)) e, below_grows es i n (omega arith), below_more es n))
    (λ (l : suc n ≤ i). let e : i ≡ suc n = omega arith in omega (arith, ap (λ k. length (accounts_below es k)) e))
    (cases_lt i (suc n))

-- before an account there are fewer accounts than in all
pub below_fewer : (es : List Entity) (i n : ℕ) → i < n → fits is_account es i ≡ true → length (accounts_below es i) + 1 ≤ length (accounts_below es n)
below_fewer es i n l h = omega (arith, long_yes es i h, below_grows es (i + 1) n (omega arith))
