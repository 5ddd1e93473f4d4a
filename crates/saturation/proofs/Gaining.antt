-- What a step gains, it gains once, and few steps gain it.
use Rattle.std.proofs.Common.{◌≡◌, ℕ, ◌+◌, refl, arith}
use Rattle.access.specs.declared.rights.RightRecord.{RightRecord}
use Rattle.access.specs.declared.roles.Member.{Member}
use Rattle.access.specs.declared.code.Object.{Object}
use Rattle.access.specs.declared.code.Line.{Line}
use Rattle.access.specs.declared.code.Action.{Action}
use Rattle.access.specs.declared.code.Action.TheVariants as action
use Rattle.access.specs.Lists.{◌∈◌, Lists}
use Rattle.catalogue.specs.Sound.{Sound}
use Rattle.runs.specs.declared.steps.Step.{Step}
use Rattle.runs.specs.Standing.{a_grant, a_join}
use Rattle.runs.specs.States.{State, Part, Sub, pair, acting, planting, done}
use Rattle.runs.specs.Runs.{Allowed, grant, join, after, worker}
use Rattle.runs.specs.Turns.{Tried}
use Rattle.runs.specs.Limits.{one_more, Opened, Joins}
use Rattle.runs.proofs.Grounds.{calls, IsCall, to}
use Rattle.runs.proofs.Covering.{every_more}
use Rattle.lookup.proofs.Telling.{in_sub}
use Rattle.saturation.specs.Progress.{Once, Few}

-- what stands adds nothing
module _ {S : State} where
  pub acts_already : {v : ℕ} → v ∈ S.acted → Part (acting S v) S
  acts_already m = record { acted = in_sub m; rights = λ x n. n; members = λ x n. n; planted = λ x n. n; entered = λ x n. n }

  pub enters_already : {y : Object} {w : ℕ} → pair y w ∈ S.entered → Part (done S w (action.Call y)) S
  enters_already m = record { acted = λ x n. n; rights = λ x n. n; members = λ x n. n; planted = λ x n. n; entered = in_sub m }

  pub grants_already : {g : RightRecord} (w : ℕ) → g ∈ S.rights → Part (done S w (action.Grant g)) S
  grants_already w m = record { acted = λ x n. n; rights = in_sub m; members = λ x n. n; planted = λ x n. n; entered = λ x n. n }

  pub joins_already : {j : Member} (w : ℕ) → j ∈ S.members → Part (done S w (action.Join j)) S
  joins_already w m = record { acted = λ x n. n; rights = λ x n. n; members = in_sub m; planted = λ x n. n; entered = λ x n. n }

-- one thing more, which was not there
module _ {L : Lists} {G : State} (o : Once L G) where
  pub once_acting : (v : ℕ) → (v ∈ G.acted → ⊥) → Once L (acting G v)
  once_acting v new = record { acted = one_more o.acted new; rights = o.rights; members = o.members; entered = o.entered; opened = o.opened; joined = o.joined }

  pub once_planting : (l : Line) → Once L (planting G l)
  once_planting l = record { acted = o.acted; rights = o.rights; members = o.members; entered = o.entered; opened = o.opened; joined = o.joined }

  pub once_entering : (y : Object) (w : ℕ) → (pair y w ∈ G.entered → ⊥) → Once L (done G w (action.Call y))
  once_entering y w new = record { acted = o.acted; rights = o.rights; members = o.members; entered = one_more o.entered new; opened = o.opened; joined = o.joined }

  pub once_granting : (g : RightRecord) (w : ℕ) → Opened L g → (g ∈ G.rights → ⊥) → Once L (done G w (action.Grant g))
  once_granting g w p new = record {
    acted = o.acted;
    rights = one_more o.rights new;
    members = o.members;
    entered = o.entered;
    opened = every_more (Opened L) g o.opened p;
    joined = o.joined;
  }

  once_joining : (j : Member) (w : ℕ) → Joins L j → (j ∈ G.members → ⊥) → Once L (done G w (action.Join j))
  once_joining j w p new = record {
    acted = o.acted;
    rights = o.rights;
    members = one_more o.members new;
    entered = o.entered;
    opened = o.opened;
    joined = every_more (Joins L) j o.joined p;
  }

-- a state and what of it is beside the catalogue
pub record Beside (G S : State) : Type 0 where
  pub acted : G.acted ≡ S.acted
  pub entered : G.entered ≡ S.entered
  pub rights : Sub G.rights S.rights
  pub members : Sub G.members S.members

-- a step that is tried, allowed, and adds something
module _ {L : Lists} (s : Sound L) {S G : State} (b : Beside G S) (o : Once L G) where
  call_once : {t : Action} (w : ℕ) → IsCall L t → (Part (done S w t) S → ⊥) → Once L (done G w t) × ((n : ℕ) → Few n G → Few (n + 1) (done G w t))
  call_once w (to {y = y} i) new = (once_entering o y w (λ m. new (enters_already (rw b.entered at m))), λ n f. omega (arith, f))

  pub step_once : {t : Step} → Tried L t → Allowed L S t → (Part (after S t) S → ⊥) → Once L (after G t) × ((n : ℕ) → Few n G → Few (n + 1) (after G t))
  step_once (Tried.switch {v = v}) h new = (once_acting o v (λ m. new (acts_already (rw b.acted at m))), λ n f. omega (arith, f))
  step_once Tried.grant (grant {a = a} {g = g} m (a_grant p e) h) new =
      (once_granting o g a (record { principal = refl; stands = e; option = refl }) (λ n. new (grants_already a (b.rights _ n))), λ n f. omega (arith, f))
  step_once Tried.join (join {a = w} {m = j} m (a_join a r) h) new =
      (once_joining o j w (record { account = a; role = r }) (λ n. new (joins_already w (b.members _ n))), λ n f. omega (arith, f))
  step_once (Tried.call {x = x}) h new = (once_entering o x _ (λ m. new (enters_already (rw b.entered at m))), λ n f. omega (arith, f))
  step_once (Tried.follow {v = v} {l = l} n) h new = call_once (worker l.runner v) (calls L s l n) new
