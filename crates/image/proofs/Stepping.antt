-- The steps of reading a body, and of reading the bodies.
use Rattle.std.proofs.Common.{◌≡◌, ℕ, suc, ◌+◌, ◌-◌, ◌*◌, ◌<◌, ◌≤◌, Bool, true, false, cond, List, length, get_or, take, drop, Ok, Err, Result, sym, refl, ap, ◌∙◌, arith, eqb}
use Rattle.std.proofs.lemmas.List.{drop_more}
use Rattle.access.specs.Codes.{Code}
use Rattle.access.specs.Lists.{Lists, new_lists}
use Rattle.catalogue.specs.declared.names.ListName.{ListName}
use Rattle.image.specs.Layout.{in_order, width_of, part_of}
use Rattle.image.specs.Reading.{fault, and_then, first_call, is_new, new_or, built_from, built_parts, contents_end, firsts, read_lists, steps, end_after}
use Rattle.std.proofs.lemmas.Bool.{le-ltb}

new_on : (b : Bool) (f : Code) (u : Unit {0}) → Ok u ≡ cond b (Ok tt) (Err f) → b ≡ true
new_on true f u e = refl
new_on false f u e = absurd cc

new_off : (b : Bool) (f r : Code) → Err r ≡ cond {A = Result (Unit {0}) Code} b (Ok tt) (Err f) → (b ≡ false) × (r ≡ f)
new_off true f r e = absurd cc
new_off false f r e = (refl, cc)

module _ (p : ListName) (rest : List ℕ) (l : Lists) (k count : ℕ) (answer : Result ℕ Code) (h : k < count) (came : answer ≡ (first_call p rest l).answer) where
  built_step : (b : Bool) → is_new answer k ≡ b
      → built_from p rest l k (count - k) ≡ cond b (built_from p (drop (width_of p) rest) (first_call p rest l).lists (k + 1) (count - (k + 1))) (Err (fault (part_of p) k))
  built_step b e =
      let n : count - k ≡ suc (count - (k + 1)) = omega arith in
      ap (built_from p rest l k) n
      ∙ ap (λ t. cond t (built_from p (drop (width_of p) rest) (first_call p rest l).lists (k + 1) (count - (k + 1))) (Err (fault (part_of p) k))) (ap (λ a. is_new a k) (sym came) ∙ e)

  -- a record that its call took as new
  pub built_on : (after : List ℕ) (m : Lists) (u : Unit {0}) → after ≡ drop (width_of p) rest → m ≡ (first_call p rest l).lists → Ok u ≡ new_or answer p k
      → built_from p after m (k + 1) (count - (k + 1)) ≡ built_from p rest l k (count - k)
  built_on after m u ea em e =
      ap (λ b. built_from p b m (k + 1) (count - (k + 1))) ea
      ∙ ap (λ n. built_from p (drop (width_of p) rest) n (k + 1) (count - (k + 1))) em
      ∙ sym (built_step true (new_on (is_new answer k) (fault (part_of p) k) u e))

  -- a record that its call did not take as new
  pub built_off : (r : Code) → Err r ≡ new_or answer p k → Err r ≡ built_from p rest l k (count - k)
  built_off r e =
      let no = new_off (is_new answer k) (fault (part_of p) k) r e in
      ap Err no.1 ∙ sym (built_step false no.0)

-- one list after another

module _ {X : Type 0} (f : ListName → X → Result X Code) (ps : List ListName) (i : ℕ) where
  pub steps_on : (d : ListName) (x y : X) → i < length ps → Ok y ≡ f (get_or ps i d) x → steps f (drop (i + 1) ps) y ≡ steps f (drop i ps) x
  steps_on d x y h e = ap (λ r. and_then r (steps f (drop (i + 1) ps))) e ∙ sym (ap (λ qs. steps f qs x) (drop_more ps i d h))

  pub steps_off : (d : ListName) (x : X) (c : Code) → i < length ps → Err c ≡ f (get_or ps i d) x → Err c ≡ steps f (drop i ps) x
  steps_off d x c h e = ap (λ r. and_then r (steps f (drop (i + 1) ps))) e ∙ sym (ap (λ qs. steps f qs x) (drop_more ps i d h))

-- the contents

module _ (bytes : List ℕ) (long : 20 ≤ length bytes) where
  contents_is : contents_end bytes ≡ and_then (end_after bytes in_order 20) (λ end. cond (eqb (length bytes) end) (Ok end) (Err (fault 0 5)))
  contents_is = ap (λ b. cond b (Err (fault 0 5)) (and_then (end_after bytes in_order 20) (λ end. cond (eqb (length bytes) end) (Ok end) (Err (fault 0 5))))) (le-ltb (length bytes) 20 long)

  pub contents_off : (c : Code) → Err c ≡ end_after bytes in_order 20 → Err c ≡ contents_end bytes
  contents_off c e = ap (λ r. and_then r (λ end. cond (eqb (length bytes) end) (Ok end) (Err (fault 0 5)))) e ∙ sym contents_is

-- the whole

pub read_contents : (bytes : List ℕ) (r : Code) → Err r ≡ contents_end bytes → Err r ≡ read_lists bytes
unfolding read_lists
read_contents bytes r e = ap (λ s. and_then s (λ _. and_then (firsts bytes) (λ _. built_parts bytes in_order new_lists))) e

pub read_firsts : (bytes : List ℕ) (n : ℕ) (r : Code) → Ok n ≡ contents_end bytes → Err r ≡ firsts bytes → Err r ≡ read_lists bytes
unfolding read_lists
read_firsts bytes n r e f =
    ap (λ s. and_then s (λ _. built_parts bytes in_order new_lists)) f
    ∙ ap (λ s. and_then s (λ _. and_then (firsts bytes) (λ _. built_parts bytes in_order new_lists))) e

pub read_rest : (bytes : List ℕ) (n : ℕ) (u : Unit {0}) → Ok n ≡ contents_end bytes → Ok u ≡ firsts bytes → built_parts bytes in_order new_lists ≡ read_lists bytes
unfolding read_lists
read_rest bytes n u e f =
    ap (λ s. and_then s (λ _. built_parts bytes in_order new_lists)) f
    ∙ ap (λ s. and_then s (λ _. and_then (firsts bytes) (λ _. built_parts bytes in_order new_lists))) e

-- record k of a body
pub record_cut : (p : ListName) (k w : ℕ) (body bytes : List ℕ) → w ≡ width_of p → body ≡ bytes → take ((k * w + w) - k * w) (drop (k * w) body) ≡ take (width_of p) (drop (k * width_of p) bytes)
record_cut p k w body bytes ew e =
    let n : (k * w + w) - k * w ≡ w = omega arith in
    ap (λ i. take i (drop (k * w) body)) n ∙ ap (λ v. take v (drop (k * v) body)) ew ∙ ap (λ b. take (width_of p) (drop (k * width_of p) b)) e
