-- What stands stays when an entity comes after the others.
use Rattle.std.proofs.Common.{◌≡◌, ℕ, zero, suc, ◌<◌, Bool, true, List, [], ◌∷◌, ◌++◌, length, is_some, Some, None, Option, sym, refl, ap, ◌∙◌, arith}
use Rattle.std.specs.List.{slice_get}
use Rattle.std.proofs.lemmas.Bool.{false≢true}
use Rattle.access.specs.declared.entities.Kind.{Kind}
use Rattle.access.specs.declared.entities.Entity.{Entity}
use Rattle.access.specs.declared.rights.RightRecord.{RightRecord}
use Rattle.access.specs.declared.roles.Member.{Member}
use Rattle.access.specs.declared.code.Object.{Object}
use Rattle.access.specs.declared.code.Object.TheVariants as object
use Rattle.access.specs.declared.code.Runner.{Runner}
use Rattle.access.specs.declared.code.Runner.TheVariants as runner
use Rattle.access.specs.declared.code.Action.{Action}
use Rattle.access.specs.declared.code.Action.TheVariants as action
use Rattle.access.specs.declared.code.Line.{Line}
use Rattle.access.specs.Lists.{stands, fits, passes, is_principal, is_account, is_role, is_table, is_procedure}
use Rattle.catalogue.specs.Judgements.{object_fits, runner_fits}
use Rattle.catalogue.specs.Sound.{TakesRight, TakesMember, TakesLine, call_fits}

module _ {X : Type 0} where
  pub nth_stays : (xs : List X) (x : X) (n : ℕ) (y : X) → slice_get xs n ≡ Some y → slice_get (xs ++ x ∷ []) n ≡ Some y
  nth_stays [] x n y e = let z : ◌≡◌ {A = ℕ} 0 1 = cc in let no : ⊥ = omega arith in absurd no
  nth_stays (z ∷ zs) x zero y e = e
  nth_stays (z ∷ zs) x (suc n) y e = nth_stays zs x n y e

  pub nth_last : (xs : List X) (x : X) → slice_get (xs ++ x ∷ []) (length xs) ≡ Some x
  nth_last [] x = refl
  nth_last (z ∷ zs) x = nth_last zs x

  pub nth_below : (xs : List X) (n : ℕ) → is_some (slice_get xs n) ≡ true → n < length xs
  nth_below [] n e = let no : ⊥ = false≢true e in absurd no
  nth_below (z ∷ zs) zero e = omega arith
  nth_below (z ∷ zs) (suc n) e = omega (arith, nth_below zs n e)

-- a number at which an entity stands keeps its test
module _ (es : List Entity) (x : Entity) where
  pub fits_stays : (test : Kind → Bool) (n : ℕ) → fits test es n ≡ true → fits test (es ++ x ∷ []) n ≡ true
  fits_stays test n h = go (slice_get es n) refl
    where
      go : (o : Option Entity) → slice_get es n ≡ o → fits test (es ++ x ∷ []) n ≡ true
      go None e = let no : ⊥ = false≢true (ap (passes test) (sym e) ∙ h) in absurd no
      go (Some y) e = ap (passes test) (nth_stays es x n y e) ∙ ap (passes test) (sym e) ∙ h

  pub stands_stays : (n : ℕ) → stands es n ≡ true → stands (es ++ x ∷ []) n ≡ true
  stands_stays n h = go (slice_get es n) refl
    where
      go : (o : Option Entity) → slice_get es n ≡ o → stands (es ++ x ∷ []) n ≡ true
      go None e = let no : ⊥ = false≢true (ap is_some (sym e) ∙ h) in absurd no
      go (Some y) e = ap is_some (nth_stays es x n y e)

  pub right_stays : (r : RightRecord) → TakesRight es r → TakesRight (es ++ x ∷ []) r
  right_stays r h = (fits_stays is_principal r.principal h.0, stands_stays r.entity h.1)

  pub member_stays : (m : Member) → TakesMember es m → TakesMember (es ++ x ∷ []) m
  member_stays m h = (fits_stays is_account m.account h.0, fits_stays is_role m.role h.1)

  object_stays : (y : Object) → object_fits es y ≡ true → object_fits (es ++ x ∷ []) y ≡ true
  object_stays (object.Procedure e) h = fits_stays is_procedure e h
  object_stays (object.Triggers e a) h = fits_stays is_table e h
  object_stays (object.Created e) h = h

  runner_stays : (r : Runner) → runner_fits es r ≡ true → runner_fits (es ++ x ∷ []) r ≡ true
  runner_stays runner.Caller h = h
  runner_stays (runner.Account n) h = fits_stays is_account n h

  call_stays : (a : Action) → call_fits es a ≡ true → call_fits (es ++ x ∷ []) a ≡ true
  call_stays (action.Call y) h = object_stays y h
  call_stays (action.Grant g) h = h
  call_stays (action.Join m) h = h

  pub line_stays : (l : Line) → TakesLine es l → TakesLine (es ++ x ∷ []) l
  line_stays l h = (object_stays l.object h.0, runner_stays l.runner h.1, call_stays l.action h.2)
