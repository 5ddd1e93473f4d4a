-- The numbers of what bytes name.
use Rattle.std.proofs.Common.{◌≡◌, ℕ, zero, suc, Bool, true, false, cond, eqb, is_some, Some, None, Option, unwrap_or, sym, refl, ap, ◌∙◌, arith, List, ◌+◌, [], ◌∷◌, map, length}
use Rattle.std.specs.Option.{option_map}
use Rattle.std.proofs.lemmas.Bool.{eqb-true}
use Rattle.access.specs.declared.entities.Kind.{Kind}
use Rattle.access.specs.declared.entities.Mode.{Mode}
use Rattle.access.specs.declared.rights.Right.{Right}
use Rattle.access.specs.declared.code.Event.{Event}
use Rattle.access.specs.declared.code.Event.TheVariants.{Inserted, Updated, Deleted}
use Rattle.access.specs.declared.code.Runner.TheVariants as runner
use Rattle.access.specs.declared.code.Object.{Object}
use Rattle.access.specs.declared.code.Object.TheVariants as object
use Rattle.access.specs.declared.numbers.ObjectNumbers.{ObjectNumbers}
use Rattle.access.specs.Numbers.{kind_at, kind_number, mode_at, mode_number, right_at, right_number, option_at, event_at, event_right, runner_at, runner_number, object_at, kinds, modes, rights}
use Rattle.image.specs.Bytes.{option_number, numbers_of}
use Rattle.std.specs.List.{range_with_len, slice_get}

-- a number that is not listed
none_some : {X : Type 0} (x : X) → None ≡ Some x → ⊥
none_some x e = cc

-- the number of a number's case

-- in a list of cases in the order of their numbers, a case has the number of its place
numbered : {X : Type 0} (f : X → ℕ) (xs : List X) (a n : ℕ) (x : X) → map f xs ≡ range_with_len a (length xs) → slice_get xs n ≡ Some x → f x ≡ a + n
numbered f [] a n x h e = absurd (none_some x e)
numbered f (y ∷ xs) a zero x h e = let s : y ≡ x = cc in let first : f y ≡ a = cc in ap f (sym s) ∙ first ∙ omega arith
numbered f (y ∷ xs) a (suc n) x h e =
    let rest : map f xs ≡ range_with_len (a + 1) (length xs) = cc in
    numbered f xs (a + 1) n x rest e ∙ omega arith

pub kind_back : (n : ℕ) (k : Kind) → kind_at n ≡ Some k → kind_number k ≡ n
kind_back n k e = numbered kind_number kinds 0 n k refl e ∙ omega arith

pub mode_back : (n : ℕ) (m : Mode) → mode_at n ≡ Some m → mode_number m ≡ n
mode_back n m e = numbered mode_number modes 0 n m refl e ∙ omega arith

pub right_back : (n : ℕ) (a : Right) → right_at n ≡ Some a → right_number a ≡ n
right_back n a e = numbered right_number rights 0 n a refl e ∙ omega arith

pub option_back : (n : ℕ) (b : Bool) → option_at n ≡ Some b → option_number b ≡ n
option_back n b e = numbered option_number (false ∷ true ∷ []) 0 n b refl e ∙ omega arith

event_back : (n : ℕ) (v : Event) → event_at n ≡ Some v → right_number (event_right v) ≡ n
event_back zero v e = absurd (none_some v e)
event_back (suc n) v e = numbered (λ w. right_number (event_right w)) (Inserted ∷ Updated ∷ Deleted ∷ []) 1 n v refl e ∙ omega arith

pub some_of : {X : Type 0} (o : Option X) (d : X) → is_some o ≡ true → o ≡ Some (unwrap_or o d)
some_of None d e = absurd cc
some_of (Some x) d e = refl

-- runners

pub runner_back : (n : ℕ) → runner_number (runner_at n) ≡ n
runner_back n = go (eqb n 255) refl
  where
    go : (b : Bool) → eqb n 255 ≡ b → runner_number (cond b runner.Caller (runner.Account n)) ≡ n
    go true e = sym (eqb-true n 255 e)
    go false e = refl

-- objects

module _ (n : ObjectNumbers) (x : Object) where
  object_case : (a b c : Bool) (o : Option Event) → eqb n.kind 0 ≡ a → eqb n.right 0 ≡ b → eqb n.kind 1 ≡ c → event_at n.right ≡ o
      → cond a (cond b (Some (object.Procedure n.entity)) None) (cond c (option_map (λ event. object.Triggers n.entity event) o) None) ≡ Some x
      → numbers_of x ≡ n
  object_case true true c o ea eb ec eo e =
      let same : object.Procedure n.entity ≡ x = cc in
      let kind = eqb-true n.kind 0 ea in
      let right = eqb-true n.right 0 eb in
      ap numbers_of (sym same)
      ∙ ap (λ k. record { kind = k; entity = n.entity; right = 0 }) (sym kind)
      ∙ ap (λ a. record { kind = n.kind; entity = n.entity; right = a }) (sym right)
  object_case true false c o ea eb ec eo e = absurd (none_some x e)
  object_case false b true (Some v) ea eb ec eo e =
      let same : object.Triggers n.entity v ≡ x = cc in
      let kind = eqb-true n.kind 1 ec in
      let right = event_back n.right v eo in
      ap numbers_of (sym same)
      ∙ ap (λ k. record { kind = k; entity = n.entity; right = right_number (event_right v) }) (sym kind)
      ∙ ap (λ a. record { kind = n.kind; entity = n.entity; right = a }) right
  object_case false b true None ea eb ec eo e = absurd (none_some x e)
  object_case false b false o ea eb ec eo e = absurd (none_some x e)

  pub object_back : object_at n ≡ Some x → numbers_of x ≡ n
  object_back e = object_case (eqb n.kind 0) (eqb n.right 0) (eqb n.kind 1) (event_at n.right) refl refl refl refl e
