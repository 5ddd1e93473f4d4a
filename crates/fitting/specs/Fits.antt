-- When a step is allowed, in two parts: who does it, and what the rows of that account tell.
use Rattle.std.specs.Prelude.{◌≡◌, ℕ, ◌<◌, true, ◌⊎◌, List}
use Rattle.access.specs.declared.entities.Kind.TheVariants as kind
use Rattle.access.specs.declared.rights.Right.{Right}
use Rattle.access.specs.declared.rights.Right.TheVariants.{Alter, Impersonate}
use Rattle.access.specs.declared.code.Object.{Object}
use Rattle.access.specs.declared.code.Runner.{Runner}
use Rattle.access.specs.declared.code.Runner.TheVariants as runner
use Rattle.access.specs.declared.code.Action.{Action}
use Rattle.access.specs.declared.code.Action.TheVariants as action
use Rattle.access.specs.declared.sets.RightSet.{RightSet}
use Rattle.access.specs.Lists.{◌∈◌, Lists}
use Rattle.access.specs.Numbers.{right_number}
use Rattle.access.specs.Places.{place_of}
use Rattle.access.specs.Sets.{told}
use Rattle.runs.specs.declared.steps.Step.{Step}
use Rattle.runs.specs.declared.steps.Step.TheVariants.{Switch, Grant, Join, Plant, Call, Follow}
use Rattle.runs.specs.Standing.{Is, IsObject, OneOwner, Proper, entry_right}
use Rattle.runs.specs.States.{State, pair}
use Rattle.runs.specs.Rights.{Holds, MayGrant}
use Rattle.runs.specs.Runs.{LineStands}

-- the account is acted as; for a follow, the pair is entered and the line stands
module _ (L : Lists) (S : State) where
  abbrev pub Opens : Step → Type 0
  Opens (Switch a v) = a ∈ S.acted
  Opens (Grant a g) = a ∈ S.acted
  Opens (Join a m) = a ∈ S.acted
  Opens (Plant a l) = a ∈ S.acted
  Opens (Call a x) = a ∈ S.acted
  Opens (Follow v l) = (pair l.object v ∈ S.entered) × LineStands L S l

-- what an account can do: the lists of a catalogue, and its rows of what it holds and may grant
pub record Powers : Type 0 where
  pub lists : Lists
  pub holds : List RightSet
  pub grants : List RightSet

-- the row has the right on e
abbrev pub Tells : List RightSet → ℕ → Right → Type 0
Tells row e r = (e < 96) × (told row e (right_number r) ≡ true)

abbrev pub Enters : List RightSet → Object → Type 0
Enters held x = Tells held (place_of x) (entry_right x)

-- what the rows tell of account a is so in the state
pub record Backed (L : Lists) (S : State) (a : ℕ) (held granted : List RightSet) : Type 0 where
  pub holds : (e : ℕ) (r : Right) → Tells held e r → Holds L S a e r
  pub grants : (e : ℕ) (r : Right) → Tells granted e r → MayGrant L S a e r

-- what else a step asks, of the rows of the account that does it
module _ (L : Lists) (held granted : List RightSet) where
  abbrev pub LendsBy : Runner → Type 0
  LendsBy runner.Caller = Unit {0}
  LendsBy (runner.Account w) = Is L kind.Account w × Tells held w Impersonate

  abbrev pub DoesBy : Object → Action → Type 0
  DoesBy x (action.Call y) = Enters held y ⊎ OneOwner L x y
  DoesBy x (action.Grant g) = Tells granted g.entity g.right
  DoesBy x (action.Join m) = Tells held m.role Alter

  abbrev pub Fits : Step → Type 0
  Fits (Switch a v) = Is L kind.Account v × Tells held v Impersonate
  Fits (Grant a g) = Proper L (action.Grant g) × Tells granted g.entity g.right
  Fits (Join a m) = Proper L (action.Join m) × Tells held m.role Alter
  Fits (Plant a l) = IsObject L l.object × Tells held (place_of l.object) Alter × LendsBy l.runner × Proper L l.action
  Fits (Call a x) = IsObject L x × Enters held x
  Fits (Follow v l) = DoesBy l.object l.action
