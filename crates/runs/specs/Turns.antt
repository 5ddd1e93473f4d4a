-- What the turn of an account adds to a state.
use Rattle.std.specs.Prelude.{◌≡◌, ℕ, true, ◌⊎◌}
use Rattle.access.specs.declared.rights.Right.{Right}
use Rattle.access.specs.declared.rights.Right.TheVariants.{Alter, Impersonate}
use Rattle.access.specs.declared.rights.RightRecord.{RightRecord}
use Rattle.access.specs.declared.roles.Member.{Member}
use Rattle.access.specs.declared.code.Object.{Object}
use Rattle.access.specs.declared.code.Line.{Line}
use Rattle.access.specs.Lists.{◌∈◌, Lists, public}
use Rattle.access.specs.Places.{place_of}
use Rattle.runs.specs.declared.steps.Step.{Step}
use Rattle.runs.specs.declared.steps.Step.TheVariants.{Switch, Grant, Join, Call, Follow}
use Rattle.runs.specs.Standing.{IsObject, OneOwner}
use Rattle.runs.specs.States.{State, Part, pair}
use Rattle.runs.specs.Rights.{Holds, right_record}
use Rattle.runs.specs.Runs.{Allowed, after, doer_of}

-- everyone may impersonate v, and grant it on
abbrev pub to_public : ℕ → RightRecord
to_public v = right_record public v Impersonate true

-- the steps that are tried one by one: a grant only to everyone and with the option, and no plant
pub data Tried (L : Lists) : Step → Type 0 where
  switch : {a v : ℕ} → Tried L (Switch a v)
  grant : {a e : ℕ} {r : Right} → Tried L (Grant a (right_record public e r true))
  join : {a : ℕ} {m : Member} → Tried L (Join a m)
  call : {a : ℕ} {x : Object} → Tried L (Call a x)
  follow : {v : ℕ} {l : Line} → l ∈ L.lines → Tried L (Follow v l)

-- T has all that account a can add to S, by one step, or by a plant and what follows it
pub record Turned (L : Lists) (S T : State) (a : ℕ) : Type 0 where
  pub steps : (t : Step) → Tried L t → doer_of t ≡ a → Allowed L S t → Part (after S t) T
  -- who entered an object that a can plant in is acted as, or everyone may impersonate it
  pub taken : (x : Object) (v : ℕ) → a ∈ S.acted → pair x v ∈ S.entered → Holds L S a (place_of x) Alter
      → (v ∈ T.acted) ⊎ (to_public v ∈ T.rights)
  -- whom a may impersonate enters the other objects of the owner
  pub lent : (x y : Object) (v u : ℕ) → a ∈ S.acted → pair x v ∈ S.entered → Holds L S a (place_of x) Alter
      → u ∈ S.acted → Holds L S a u Impersonate → IsObject L y → OneOwner L x y → pair y u ∈ T.entered
