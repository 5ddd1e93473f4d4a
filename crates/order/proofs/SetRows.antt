-- Laws of rows of sets of rights.
use Rattle.std.proofs.Common.{◌≡◌, ℕ, zero, suc, ◌+◌, ◌*◌, ◌%◌, ◌^◌, ◌<◌, add-one, Bool, true, false, ◌&&◌, ◌||◌, eqb, ltb, List, [], ◌∷◌, length, get_or, set, replicate, sym, refl, ap, lit<, ◌∙◌, ⊎_elim, arith}
use mathlib.Core.Bool.{or-false}
use Rattle.std.proofs.lemmas.List.{get_or-set_same, get_or-set_other}
use Rattle.std.proofs.lemmas.Bool.{cases_eq, eq-eqb, ne_eqb, lt-ltb, le-ltb, and_from, both_ways, or_left, or_right}
use Rattle.std.proofs.lemmas.Bool.Decides.{nat_tests}
use Rattle.std.proofs.lemmas.Nat.{pow_below}
use native.Mathlib.Nat.{two-pow-succ, mod-eq_of_lt}
use Rattle.access.specs.Bits.{bit}
use Rattle.access.specs.Sets.{told}
use Rattle.access.specs.declared.sets.RightSet.{RightSet}
use Rattle.access.proofs.SetLaws.{bit_zero, byte_get_or}

-- the set that is read at x, which is empty past the end
pub told_read : (ss : List RightSet) (x k : ℕ) (d : RightSet) → bit d.bits k ≡ false → bit (get_or ss x d).bits k ≡ told ss x k
told_read [] x k d e = e ∙ sym (bit_zero k)
told_read (s ∷ ss) zero k d e = refl
told_read (s ∷ ss) (suc x) k d e = told_read ss x k d e

abbrev empty : RightSet
empty = record { bits = 0; small = lit< tt }

told_at : (ss : List RightSet) (x k : ℕ) → told ss x k ≡ bit (get_or ss x empty).bits k
told_at ss x k = sym (told_read ss x k empty (bit_zero k))

-- past the end there is no right
pub told_small : (ss : List RightSet) (n : ℕ) → length ss ≡ n → (x k : ℕ) → told ss x k ≡ true → x < n
told_small [] n e x k t = absurd (both_ways _ (bit_zero k) t)
told_small (s ∷ ss) n e zero k t = omega arith
told_small (s ∷ ss) n e (suc x) k t = let h = told_small ss (length ss) refl x k t in omega arith

-- a row of one set
pub told_filled : (n : ℕ) (s : RightSet) (x k : ℕ) → told (replicate n s) x k ≡ (ltb x n && bit s.bits k)
told_filled zero s x k = bit_zero k ∙ sym (ap (λ b. b && bit s.bits k) (le-ltb x zero (omega arith)))
told_filled (suc n) s zero k = sym (ap (λ b. b && bit s.bits k) (lt-ltb zero (suc n) (omega arith)))
told_filled (suc n) s (suc x) k = told_filled n s x k ∙ ap (λ b. b && bit s.bits k) (up x n)
  where
    up : (x n : ℕ) → ltb x n ≡ ltb (suc x) (suc n)
    up x n = grind (arith, nat_tests)

-- a row of one set has no right that the set has not
pub told_clear : (n : ℕ) (s : RightSet) (x k : ℕ) → bit s.bits k ≡ false → told (replicate n s) x k ≡ false
told_clear n s x k e = told_filled n s x k ∙ ap (λ b. ltb x n && b) e ∙ neither (ltb x n)
  where
    neither : (b : Bool) → (b && false) ≡ false
    neither true = refl
    neither false = refl

-- a row of n sets with more rights put in at x
pub told_set : (ss : List RightSet) (n x : ℕ) (s : RightSet) (more : ℕ → Bool) → x < length ss → x < n
    → ((k : ℕ) → bit s.bits k ≡ (told ss x k || more k))
    → (y k : ℕ) → told (set ss x s) y k ≡ (told ss y k || ((eqb y x && ltb x n) && more k))
told_set ss n x s more h l f y k =
    told_at (set ss x s) y k
    ∙ ⊎_elim
    (λ (e : y ≡ x). ap (λ (z : ℕ). bit (get_or (set ss x s) z empty).bits k) e ∙ ap (λ (t : RightSet). bit t.bits k) (get_or-set_same ss x s empty h) ∙ f k
    ∙ ap (λ (z : ℕ). told ss z k || more k) (sym e) ∙ ap (λ b. told ss y k || (b && more k)) (sym (and_from _ _ (eq-eqb y x e) (lt-ltb x n l))))
    (λ ne. ap (λ (t : RightSet). bit t.bits k) (get_or-set_other ss x y s empty ne) ∙ sym (told_at ss y k) ∙ sym (or-false (told ss y k))
    ∙ ap (λ b. told ss y k || ((b && ltb x n) && more k)) (sym (ne_eqb y x ne)))
    (cases_eq y x)

-- each place below n that has some right is among the bits
abbrev pub PlacesBelow : List RightSet → ℕ → ℕ → Type 0
PlacesBelow ss n places = (x k : ℕ) → x < n → told ss x k ≡ true → bit places x ≡ true

module _ (ss : List RightSet) (n places : ℕ) (done : PlacesBelow ss n places) where
  -- the place n is put in
  pub place_more : (next : ℕ) → ((y : ℕ) → bit next y ≡ (bit places y || eqb y n)) → PlacesBelow ss (n + 1) next
  place_more next e x k h t =
      ⊎_elim (λ (q : x ≡ n). e x ∙ or_right (bit places x) _ (eq-eqb x n q))
      (λ ne. e x ∙ or_left (bit places x) _ (done x k (omega arith) t))
      (cases_eq x n)

  -- the set at the place n is empty
  pub place_none : (d : RightSet) → n < length ss → (get_or ss n d).bits ≡ 0 → PlacesBelow ss (n + 1) places
  place_none d l z x k h t =
      ⊎_elim
      (λ (q : x ≡ n).
      absurd (both_ways _ (bit_zero k)
      (ap (λ (b : ℕ). bit b k) (sym z ∙ sym (byte_get_or ss n d l)) ∙ ap (λ (y : ℕ). told ss y k) (sym q) ∙ t)))
      (λ ne. done x k (omega arith) t)
      (cases_eq x n)

-- the bit of the next place
pub place_next : (place x : ℕ) → place ≡ 2 ^ x → x < 96 → place * 2 ^ 1 % 2 ^ 128 ≡ 2 ^ (x + 1)
place_next place x e h =
    let twice : place * 2 ^ 1 ≡ 2 ^ (x + 1) = let p = two-pow-succ x in rw add-one (omega arith) in
    ap (λ (m : ℕ). m % 2 ^ 128) twice ∙ mod-eq_of_lt (pow_below (x + 1) 128 (omega arith))
