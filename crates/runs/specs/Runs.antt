-- The steps of one session, its runs, and what they can come to.
use Rattle.std.specs.Prelude.{ℕ, List, [], ◌∷◌}
use Rattle.access.specs.declared.entities.Kind.TheVariants.{Account}
use Rattle.access.specs.declared.rights.Right.{Right}
use Rattle.access.specs.declared.rights.Right.TheVariants.{Alter, Impersonate}
use Rattle.access.specs.declared.rights.RightRecord.{RightRecord}
use Rattle.access.specs.declared.roles.Member.{Member}
use Rattle.access.specs.declared.code.Object.{Object}
use Rattle.access.specs.declared.code.Runner.{Runner}
use Rattle.access.specs.declared.code.Runner.TheVariants as runner
use Rattle.access.specs.declared.code.Action.{Action}
use Rattle.access.specs.declared.code.Action.TheVariants as action
use Rattle.access.specs.declared.code.Line.{Line}
use Rattle.access.specs.Lists.{◌∈◌, Lists}
use Rattle.access.specs.Places.{place_of}
use Rattle.runs.specs.declared.steps.Step.{Step}
use Rattle.runs.specs.declared.steps.Step.TheVariants.{Switch, Grant, Join, Plant, Call, Follow}
use Rattle.runs.specs.Standing.{Is, IsObject, OneOwner, Proper}
use Rattle.runs.specs.States.{State, start, pair, acting, planting, done}
use Rattle.runs.specs.Rights.{Holds, MayGrant, MayEnter}

-- the account that a line runs under, when v entered its object
abbrev pub worker : Runner → ℕ → ℕ
worker runner.Caller v = v
worker (runner.Account w) v = w

-- the account that does a step
abbrev pub doer_of : Step → ℕ
doer_of (Switch a v) = a
doer_of (Grant a g) = a
doer_of (Join a m) = a
doer_of (Plant a l) = a
doer_of (Call a x) = a
doer_of (Follow v l) = worker l.runner v

module _ (L : Lists) (S : State) where
  -- account a may name the runner in a line that it plants
  pub data Lends (a : ℕ) : Runner → Type 0 where
    the_caller : Lends a runner.Caller
    an_account : {w : ℕ} → Is L Account w → Holds L S a w Impersonate → Lends a (runner.Account w)

  -- account w may do the action from object x
  pub data MayDo (x : Object) (w : ℕ) : Action → Type 0 where
    by_right : {y : Object} → MayEnter L S w y → MayDo x w (action.Call y)
    by_owner : {y : Object} → OneOwner L x y → MayDo x w (action.Call y)
    by_grant : {g : RightRecord} → MayGrant L S w g.entity g.right → MayDo x w (action.Grant g)
    by_alter : {m : Member} → Holds L S w m.role Alter → MayDo x w (action.Join m)

  -- the line stands in its object
  pub data LineStands (l : Line) : Type 0 where
    in_catalogue : l ∈ L.lines → LineStands l
    planted : l ∈ S.planted → LineStands l

  -- when each kind of step is allowed
  pub data Allowed : Step → Type 0 where
    switch : {a v : ℕ} → a ∈ S.acted → Is L Account v → Holds L S a v Impersonate → Allowed (Switch a v)
    grant : {a : ℕ} {g : RightRecord} → a ∈ S.acted → Proper L (action.Grant g) → MayGrant L S a g.entity g.right → Allowed (Grant a g)
    join : {a : ℕ} {m : Member} → a ∈ S.acted → Proper L (action.Join m) → Holds L S a m.role Alter → Allowed (Join a m)
    plant : {a : ℕ} {l : Line} → a ∈ S.acted → IsObject L l.object → Holds L S a (place_of l.object) Alter
        → Lends a l.runner → Proper L l.action → Allowed (Plant a l)
    call : {a : ℕ} {x : Object} → a ∈ S.acted → IsObject L x → MayEnter L S a x → Allowed (Call a x)
    follow : {v : ℕ} {l : Line} → pair l.object v ∈ S.entered → LineStands l
        → MayDo l.object (worker l.runner v) l.action → Allowed (Follow v l)

-- the state after a step
abbrev pub after : State → Step → State
after S (Switch a v) = acting S v
after S (Grant a g) = done S a (action.Grant g)
after S (Join a m) = done S a (action.Join m)
after S (Plant a l) = planting S l
after S (Call a x) = done S a (action.Call x)
after S (Follow v l) = done S (worker l.runner v) l.action

-- each step is allowed in the state that those before it lead to
pub data Run (L : Lists) : State → List Step → State → Type 0 where
  ends : {S : State} → Run L S [] S
  goes : {S : State} {s : Step} {ss : List Step} {T : State} → Allowed L S s → Run L (after S s) ss T → Run L S (s ∷ ss) T

module _ (L : Lists) (a : ℕ) where
  -- the steps are a run of a session that a opens, and it ends with v acted as
  pub record ActsBy (steps : List Step) (v : ℕ) : Type 0 where
    pub final : State
    pub run : Run L (start L a) steps final
    pub acted : v ∈ final.acted

  -- the same, and it ends with an account acted as that holds the right on e
  pub record UseBy (steps : List Step) (e : ℕ) (r : Right) : Type 0 where
    pub final : State
    pub run : Run L (start L a) steps final
    pub actor : ℕ
    pub acted : actor ∈ final.acted
    pub holds : Holds L final actor e r

  -- the same, and it ends with the opener itself holding the right on e
  pub record HoldBy (steps : List Step) (e : ℕ) (r : Right) : Type 0 where
    pub final : State
    pub run : Run L (start L a) steps final
    pub holds : Holds L final a e r

  -- what a session can come to: some run ends so
  abbrev pub ActsAs : ℕ → Type 0
  ActsAs v = (steps : List Step) × ActsBy steps v

  abbrev pub Use : ℕ → Right → Type 0
  Use e r = (steps : List Step) × UseBy steps e r

  abbrev pub Hold : ℕ → Right → Type 0
  Hold e r = (steps : List Step) × HoldBy steps e r
