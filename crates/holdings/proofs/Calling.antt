-- Lines of a sound catalogue, and their numbers in a table.
use Rattle.std.proofs.Common.{◌≡◌, ℕ, zero, suc, ◌+◌, ◌<◌, ◌≤◌, List, [], ◌∷◌, Some, length, set, sym, ap, refl, ◌∙◌, subst, ⊎_elim, arith}
use mathlib.Core.List.Memᴰ
use Rattle.std.specs.List.{slice_get}
use Rattle.std.proofs.lemmas.Bool.{cases_lt}
use Rattle.std.proofs.lemmas.List.{get_or-set_same, length-set}
use Rattle.std.proofs.lemmas.Option.{slice_get-get_or, slice_get_within, same_Some}
use Rattle.access.specs.declared.entities.Kind.TheVariants as kind
use Rattle.access.specs.declared.code.Object.{Object}
use Rattle.access.specs.declared.code.Runner.TheVariants as runner
use Rattle.access.specs.declared.code.Action.TheVariants.{Call as Calling}
use Rattle.access.specs.declared.code.Line.{Line}
use Rattle.access.specs.Lists.{◌∈◌, Lists}
use Rattle.catalogue.specs.Sound.{Sound}
use Rattle.runs.specs.Standing.{Is, IsObject}
use Rattle.runs.proofs.Grounds.{IsCall, to, IsRunner, calls, runners}
use Rattle.holdings.specs.declared.calls.Call.{Call}

module _ {L : Lists} (sound : Sound L) (l : Line) (listed : l ∈ L.lines) where
  pub called_object : (y : Object) → l.action ≡ Calling y → IsObject L y
  called_object y e = object_in (subst (IsCall L) e (calls L sound l listed))
    where
      object_in : IsCall L (Calling y) → IsObject L y
      object_in (to o) = o

  pub runner_account : (w : ℕ) → l.runner ≡ runner.Account w → Is L kind.Account w
  runner_account w e = account_in (subst (IsRunner L) e (runners L sound l listed))
    where
      account_in : IsRunner L (runner.Account w) → Is L kind.Account w
      account_in (IsRunner.an_account i) = i

-- what is at a place of a list is in it
pub placed_in : {X : Type 0} (xs : List X) (i : ℕ) (x : X) → slice_get xs i ≡ Some x → x ∈ xs
placed_in [] i x e = cc
placed_in (y ∷ ys) zero x e = Memᴰ.head (same_Some x y (sym e))
placed_in (y ∷ ys) (suc i) x e = Memᴰ.tail (placed_in ys i x e)

module _ {X : Type 0} where
  set_other : (xs : List X) (i j : ℕ) (v : X) → (j ≡ i → ⊥) → slice_get (set xs i v) j ≡ slice_get xs j
  set_other [] i j v n = refl
  set_other (x ∷ xs) zero zero v n = absurd (n refl)
  set_other (x ∷ xs) zero (suc j) v n = refl
  set_other (x ∷ xs) (suc i) zero v n = refl
  set_other (x ∷ xs) (suc i) (suc j) v n = set_other xs i j v (λ e. n (ap suc e))

  set_same : (xs : List X) (i : ℕ) (v x : X) → i < length xs → slice_get (set xs i v) i ≡ Some x → v ≡ x
  set_same xs i v x h e =
      same_Some v x (sym (slice_get-get_or (set xs i v) i v (omega (arith, length-set xs i v)) ∙ ap Some (get_or-set_same xs i v v h)) ∙ e)

-- what the lines before i and their numbers are like, those before the next are too
module _ (P : Line → Call → Type 0) (ls : List Line) where
  abbrev pub Alike : ℕ → List Call → Type 0
  Alike n cs = (j : ℕ) (l : Line) (c : Call) → j < n → slice_get ls j ≡ Some l → slice_get cs j ≡ Some c → P l c

  pub alike_more : (cs : List Call) (i : ℕ) (l : Line) (c : Call) → i < length cs → slice_get ls i ≡ Some l → P l c → Alike i cs → Alike (i + 1) (set cs i c)
  alike_more cs i l c h here p f j k d m a b =
      ⊎_elim
      (λ n. f j k d n a (sym (set_other cs i j c (λ e. absurd (omega (arith, n, e)))) ∙ b))
      (λ n.
      let e : j ≡ i = omega (arith, m, n) in
      subst (λ z. P z d) (same_Some l k (sym here ∙ subst (λ z. slice_get ls z ≡ Some k) e a))
      (subst (P l) (set_same cs i c d h (subst (λ z. slice_get (set cs i c) z ≡ Some d) e b)) p))
      (cases_lt j i)

  pub alike_past : (cs : List Call) (i : ℕ) → length cs ≤ i → Alike i cs → Alike (i + 1) cs
  alike_past cs i h f j k d m a b =
      ⊎_elim (λ n. f j k d n a b) (λ n. absurd (let w = slice_get_within cs j d b in omega (arith, h, m, n, w))) (cases_lt j i)
