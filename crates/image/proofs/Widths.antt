-- Counts of records times the bytes of one.
use Rattle.std.proofs.Common.{◌≡◌, ℕ, ◌+◌, ◌-◌, ◌*◌, ◌<◌, ◌≤◌, ap, ◌∙◌, add-one, suc-mul, arith}
use Rattle.std.proofs.Math.Nat.{add-mul}

pub one_more : (k w : ℕ) → (k + 1) * w ≡ k * w + w
one_more k w = ap (λ n. n * w) (add-one k) ∙ suc-mul k w

-- the last records, and those before them
pub two_parts : (a count w : ℕ) → a ≤ count → count * w ≡ (count - a) * w + a * w
two_parts a count w h = let e : count ≡ (count - a) + a = omega arith in ap (λ n. n * w) e ∙ add-mul (count - a) a w

-- those that are left, and those after the first of them
pub left_one : (k count w : ℕ) → k < count → (count - k) * w ≡ (count - (k + 1)) * w + w
left_one k count w h = let e : count - k ≡ (count - (k + 1)) + 1 = omega arith in ap (λ n. n * w) e ∙ one_more (count - (k + 1)) w

pub within : (k count w : ℕ) → k < count → k * w + w ≤ count * w
within k count w h = let e = one_more k w in let f = two_parts (k + 1) count w (omega arith) in omega arith
