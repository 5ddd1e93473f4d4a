-- What is carried along an order.
use Rattle.std.specs.Prelude.{◌≡◌, ℕ, ◌<◌, Bool, true}

-- x has right k from some place below n that is at or above it
pub record Carried (below : ℕ → ℕ → Type 0) (base : ℕ → ℕ → Bool) (n x k : ℕ) : Type 0 where
  pub from : ℕ
  pub small : from < n
  pub over : below x from
  pub has : base from k ≡ true
