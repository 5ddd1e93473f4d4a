-- What stands has a number below 96; so have the accounts of a state, and stay so.
use Rattle.std.proofs.Common.{ℕ, ◌<◌, List, ◌∷◌, sym, subst, arith}
use mathlib.Core.List.Memᴰ
use Rattle.access.specs.declared.entities.Kind.{Kind}
use Rattle.access.specs.declared.entities.Kind.TheVariants.{Account}
use Rattle.access.specs.declared.code.Runner.{Runner}
use Rattle.access.specs.declared.code.Object.{Object}
use Rattle.access.specs.declared.code.Action.{Action}
use Rattle.access.specs.declared.code.Action.TheVariants as action
use Rattle.access.specs.declared.code.Line.{Line}
use Rattle.access.specs.Lists.{◌∈◌, Lists}
use Rattle.access.specs.Places.{place_of}
use Rattle.catalogue.specs.Sound.{Sound}
use Rattle.catalogue.proofs.Standing.{nth_below}
use Rattle.runs.specs.declared.steps.Step.{Step}
use Rattle.runs.specs.declared.steps.Step.TheVariants.{Switch, Grant, Join, Plant, Call, Follow}
use Rattle.runs.specs.Standing.{Is, IsObject, a_procedure, a_trigger, created, Stands, Proper, a_call, a_grant, a_join}
use Rattle.runs.specs.States.{State, start, pair, done}
use Rattle.runs.specs.Runs.{worker, doer_of, Lends, the_caller, an_account, LineStands, in_catalogue, planted, Allowed, switch, grant, join, plant, call, follow, after, Run, ends, goes}
use Rattle.runs.proofs.Grounds.{is_stands, few, runners, IsRunner, calls, IsCall}
use Rattle.fitting.specs.Fits.{Opens}
use Rattle.fitting.specs.Smalls.{Small, SmallLine, GrantsSmall}

-- what holds of each element holds of each with one more of which it holds
in_more : {A : Type 0} (P : A → Type 0) (y : A) {xs : List A} → P y → ((x : A) → x ∈ xs → P x) → (x : A) → x ∈ (y ∷ xs) → P x
in_more P y p f x (Memᴰ.head e) = subst P (sym e) p
in_more P y p f x (Memᴰ.tail m) = f x m

module _ {L : Lists} (s : Sound L) where
  pub stands_small : (e : ℕ) → Stands L e → e < 96
  stands_small e t = omega (arith, nth_below L.entities e t, few L s)

  pub is_small : {k : Kind} {e : ℕ} → Is L k e → e < 96
  is_small {e = e} i = stands_small e (is_stands L i)

  pub object_small : {x : Object} → IsObject L x → place_of x < 96
  object_small (a_procedure i) = is_small i
  object_small (a_trigger i) = is_small i
  object_small (created i m) = is_small i

  runner_small : {r : Runner} {v : ℕ} → IsRunner L r → v < 96 → worker r v < 96
  runner_small IsRunner.the_caller h = h
  runner_small (IsRunner.an_account i) h = is_small i

  lends_small : {S : State} {a : ℕ} {r : Runner} {v : ℕ} → Lends L S a r → v < 96 → worker r v < 96
  lends_small the_caller h = h
  lends_small (an_account i m) h = is_small i

  proper_small : {t : Action} → Proper L t → GrantsSmall t
  proper_small (a_call i) = tt
  proper_small (a_grant {g = g} p e) = stands_small g.entity e
  proper_small (a_join a q) = tt

  call_small : {t : Action} → IsCall L t → GrantsSmall t
  call_small (IsCall.to i) = tt

  module _ {S : State} (g : Small S) where
    pub line_small : {l : Line} → LineStands L S l → SmallLine l
    line_small {l} (in_catalogue m) = record { runs = λ v. runner_small (runners L s l m); grants = call_small (calls L s l m) }
    line_small {l} (planted m) = g.planted l m

    pub doer_small : (t : Step) → Opens L S t → doer_of t < 96
    doer_small (Switch a v) m = g.acted a m
    doer_small (Grant a r) m = g.acted a m
    doer_small (Join a r) m = g.acted a m
    doer_small (Plant a l) m = g.acted a m
    doer_small (Call a x) m = g.acted a m
    doer_small (Follow v l) m = (line_small m.1).runs v (g.entered _ m.0)

    done_small : (w : ℕ) (t : Action) → w < 96 → Small (done S w t)
    done_small w (action.Call y) h =
        record { acted = g.acted; entered = in_more (λ n. n.account < 96) (pair y w) h g.entered; planted = g.planted }
    done_small w (action.Grant r) h = record { acted = g.acted; entered = g.entered; planted = g.planted }
    done_small w (action.Join m) h = record { acted = g.acted; entered = g.entered; planted = g.planted }

    pub after_small : {t : Step} → Allowed L S t → Small (after S t)
    after_small (switch {v = v} m i h) =
        record { acted = in_more (λ n. n < 96) v (is_small i) g.acted; entered = g.entered; planted = g.planted }
    after_small (grant {a = a} {g = r} m p h) = done_small a (action.Grant r) (g.acted a m)
    after_small (join {a = a} {m = r} m p h) = done_small a (action.Join r) (g.acted a m)
    after_small (plant {l = l} m i h n p) =
        let new : SmallLine l = record { runs = λ v. lends_small n; grants = proper_small p } in
        record { acted = g.acted; entered = g.entered; planted = in_more SmallLine l new g.planted }
    after_small (call {a = a} {x = x} m i h) = done_small a (action.Call x) (g.acted a m)
    after_small (follow {v = v} {l = l} m i h) = done_small (worker l.runner v) l.action ((line_small i).runs v (g.entered _ m))

pub start_small : (L : Lists) (a : ℕ) → a < 96 → Small (start L a)
start_small L a h = record {
  acted = in_more (λ n. n < 96) a h (λ b m. elim m [ ]);
  entered = λ n m. elim m [ ];
  planted = λ l m. elim m [ ];
}

pub run_small : {L : Lists} → Sound L → {S T : State} {ss : List Step} → Small S → Run L S ss T → Small T
run_small s g ends = g
run_small s g (goes h r) = run_small s (after_small s g h) r

-- the accounts of a state that a session of an account comes to have numbers below 96
pub opened_small : {L : Lists} → Sound L → {a : ℕ} {S : State} {ss : List Step} → Is L Account a → Run L (start L a) ss S → Small S
opened_small {L} s {a} i r = run_small s (start_small L a (is_small s i)) r
