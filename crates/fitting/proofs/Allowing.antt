-- A step is allowed exactly when who does it can begin it and the rows of that account give what it asks.
use Rattle.std.proofs.Common.{ℕ, ◌<◌, Bool, List, ◌++◌, vec_items, Decides, inl, inr, ⊎_elim}
use Rattle.std.proofs.lemmas.Bool.Decides.{Decides-like}
use mathlib.Core.List.Memᴰ
use Rattle.access.specs.declared.rights.Right.{Right}
use Rattle.access.specs.declared.sets.RightSet.{RightSet}
use Rattle.access.specs.declared.code.Object.{Object}
use Rattle.access.specs.declared.code.Runner.{Runner}
use Rattle.access.specs.declared.code.Runner.TheVariants as runner
use Rattle.access.specs.declared.code.Action.{Action}
use Rattle.access.specs.declared.code.Action.TheVariants as action
use Rattle.access.specs.Lists.{Lists}
use Rattle.catalogue.specs.Sound.{Sound}
use Rattle.runs.specs.declared.steps.Step.{Step}
use Rattle.runs.specs.declared.steps.Step.TheVariants.{Switch, Grant, Join, Plant, Call, Follow}
use Rattle.runs.specs.Standing.{a_grant}
use Rattle.runs.specs.States.{State, Sub}
use Rattle.runs.specs.Rights.{Holds, MayGrant}
use Rattle.runs.specs.Runs.{Lends, the_caller, an_account, MayDo, by_right, by_owner, by_grant, by_alter, Allowed, doer_of, switch, grant, join, plant, call, follow}
use Rattle.runs.proofs.RightLaws.{holds_stands}
use Rattle.session.specs.Reached.{state_of, before}
use Rattle.session.specs.Rowed.{Rowed, Recorded}
use Rattle.session.specs.declared.states.RunState.{RunState}
use Rattle.fitting.specs.Fits.{Opens, Tells, Backed, LendsBy, DoesBy, Fits}
use Rattle.fitting.proofs.Finding.{first_in, last_in, from_before}
use Rattle.fitting.specs.Smalls.{Small, GrantsSmall}
use Rattle.fitting.proofs.Smalls.{stands_small, line_small}

-- the records of the state are the catalogue's and those that came
swapped : {A : Type 0} (xs ys : List A) → Sub (before xs ys) (ys ++ xs)
swapped xs ys x m = ⊎_elim (Memᴰ.append_right ys) (Memᴰ.append_left xs) (from_before xs ys m)

swapped_back : {A : Type 0} (xs ys : List A) → Sub (ys ++ xs) (before xs ys)
swapped_back xs ys x m = ⊎_elim (last_in xs ys) (first_in xs ys) (Memᴰ.append_cases ys m)

pub recorded : (L : Lists) (s : RunState) → Recorded L (vec_items s.grants) (vec_items s.joins) (state_of L s)
recorded L s = record {
  rights = swapped (vec_items s.grants) L.rights;
  all_rights = swapped_back (vec_items s.grants) L.rights;
  members = swapped (vec_items s.joins) L.members;
  all_members = swapped_back (vec_items s.joins) L.members;
}

module _ {L : Lists} {S : State} where
  pub rowed_backed : {a : ℕ} {held granted : List RightSet} → Rowed L S a held granted → Backed L S a held granted
  rowed_backed w = record { holds = λ e r t. (w.holds e r t.0).0 t.1; grants = λ e r t. (w.grants e r t.0).0 t.1 }

  module _ {a : ℕ} {held granted : List RightSet} (b : Backed L S a held granted) where
    pub lends_to : (n : Runner) → LendsBy L held granted n → Lends L S a n
    lends_to runner.Caller t = the_caller
    lends_to (runner.Account v) t = an_account t.0 (b.holds _ _ t.1)

    does_to : (x : Object) (t : Action) → DoesBy L held granted x t → MayDo L S x a t
    does_to x (action.Call y) (inl h) = by_right (b.holds _ _ h)
    does_to x (action.Call y) (inr o) = by_owner o
    does_to x (action.Grant g) h = by_grant (b.grants _ _ h)
    does_to x (action.Join m) h = by_alter (b.holds _ _ h)

  module _ (s : Sound L) {a : ℕ} {held granted : List RightSet} (w : Rowed L S a held granted) where
    pub held_from : {e : ℕ} {r : Right} → Holds L S a e r → Tells held e r
    held_from {e} {r} h = let l = stands_small s e (holds_stands h) in (l, (w.holds e r l).1 h)

    granted_from : {e : ℕ} {r : Right} → e < 96 → MayGrant L S a e r → Tells granted e r
    granted_from {e} {r} l h = (l, (w.grants e r l).1 h)

    lends_from : {n : Runner} → Lends L S a n → LendsBy L held granted n
    lends_from the_caller = tt
    lends_from (an_account i h) = (i, held_from h)

    does_from : {x : Object} {t : Action} → GrantsSmall t → MayDo L S x a t → DoesBy L held granted x t
    does_from q (by_right h) = inl (held_from h)
    does_from q (by_owner o) = inr o
    does_from q (by_grant h) = granted_from q h
    does_from q (by_alter h) = held_from h

    pub holds_told : {e : ℕ} {r : Right} {b : Bool} → Decides b (Tells held e r) → Decides b (Holds L S a e r)
    holds_told = Decides-like _ ((rowed_backed w).holds _ _) held_from

  -- what the rows tell to be allowed is
  pub fits_to : {held granted : List RightSet} (t : Step) → Backed L S (doer_of t) held granted → Opens L S t → Fits L held granted t → Allowed L S t
  fits_to (Switch a v) b m f = switch m f.0 (b.holds _ _ f.1)
  fits_to (Grant a r) b m f = grant m f.0 (b.grants _ _ f.1)
  fits_to (Join a r) b m f = join m f.0 (b.holds _ _ f.1)
  fits_to (Plant a l) b m f = plant m f.0 (b.holds _ _ f.1) (lends_to b l.runner f.2) f.3
  fits_to (Call a x) b m f = call m f.0 (b.holds _ _ f.1)
  fits_to (Follow v l) b m f = follow m.0 m.1 (does_to b l.object l.action f)

  pub opens_from : {t : Step} → Allowed L S t → Opens L S t
  opens_from (switch m i h) = m
  opens_from (grant m i h) = m
  opens_from (join m i h) = m
  opens_from (plant m i h n t) = m
  opens_from (call m i h) = m
  opens_from (follow m i h) = (m, i)

  module _ (s : Sound L) (g : Small S) {held granted : List RightSet} where
    pub fits_from : {t : Step} → Rowed L S (doer_of t) held granted → Allowed L S t → Fits L held granted t
    fits_from w (switch m i h) = (i, held_from s w h)
    fits_from w (grant {g = r} m (a_grant p e) h) = (a_grant p e, granted_from s w (stands_small s r.entity e) h)
    fits_from w (join m i h) = (i, held_from s w h)
    fits_from w (plant m i h n t) = (i, held_from s w h, lends_from s w n, t)
    fits_from w (call m i h) = (i, held_from s w h)
    fits_from w (follow m i h) = does_from s w (line_small s g i).grants h

    pub allowed_told : {t : Step} {b : Bool} → Rowed L S (doer_of t) held granted → Opens L S t → Decides b (Fits L held granted t) → Decides b (Allowed L S t)
    allowed_told {t} w o = Decides-like _ (fits_to t (rowed_backed w) o) (fits_from w)
