-- What is carried along one order is carried along one that is the same.
use Rattle.std.proofs.Common.{◌≡◌, ℕ, ◌<◌, Bool, true, Decides, sym, ◌∙◌}
use Rattle.std.proofs.lemmas.Bool.Decides.{Decides-like}
use Rattle.order.specs.Spreads.{Carried}

-- a test that decides an order, in place of the order
pub carried_as : (test : ℕ → ℕ → Bool) (below : ℕ → ℕ → Type 0) → ((x y : ℕ) → Decides (test x y) (below x y))
    → (base : ℕ → ℕ → Bool) (n x k : ℕ) (t : Bool) → Decides t (Carried (λ x y. test x y ≡ true) base n x k) → Decides t (Carried below base n x k)
carried_as test below same base n x k t d =
    Decides-like t
    (λ c. record { from = c.from; small = c.small; over = (same x c.from).0 c.over; has = c.has })
    (λ c. record { from = c.from; small = c.small; over = (same x c.from).1 c.over; has = c.has })
    d

-- the same rights to begin with
pub carried_from : (below : ℕ → ℕ → Type 0) (base other : ℕ → ℕ → Bool) (n : ℕ) → ((y k : ℕ) → y < n → base y k ≡ other y k)
    → (x k : ℕ) (t : Bool) → Decides t (Carried below base n x k) → Decides t (Carried below other n x k)
carried_from below base other n same x k t d =
    Decides-like t
    (λ c. record { from = c.from; small = c.small; over = c.over; has = sym (same c.from k c.small) ∙ c.has })
    (λ c. record { from = c.from; small = c.small; over = c.over; has = same c.from k c.small ∙ c.has })
    d
