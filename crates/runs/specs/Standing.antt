-- What stands in a catalogue's lists, and what fits its place.
use Rattle.std.specs.Prelude.{◌≡◌, ℕ, true, Some}
use Rattle.std.specs.List.{slice_get}
use Rattle.access.specs.declared.entities.Kind.{Kind}
use Rattle.access.specs.declared.entities.Kind.TheVariants as kind
use Rattle.access.specs.declared.entities.Mode.TheVariants.{Parent}
use Rattle.access.specs.declared.entities.Entity.{Entity}
use Rattle.access.specs.declared.rights.Right.{Right}
use Rattle.access.specs.declared.rights.Right.TheVariants.{Execute}
use Rattle.access.specs.declared.rights.RightRecord.{RightRecord}
use Rattle.access.specs.declared.roles.Member.{Member}
use Rattle.access.specs.declared.code.Event.{Event}
use Rattle.access.specs.declared.code.Object.{Object}
use Rattle.access.specs.declared.code.Object.TheVariants as object
use Rattle.access.specs.declared.code.Action.{Action}
use Rattle.access.specs.declared.code.Action.TheVariants as action
use Rattle.access.specs.Lists.{Lists, stands}
use Rattle.access.specs.Numbers.{event_right}
use Rattle.access.specs.Places.{place_of}

abbrev pub Stands : Lists → ℕ → Type 0
Stands L e = stands L.entities e ≡ true

-- entity e is of kind k
pub record Is (L : Lists) (k : Kind) (e : ℕ) : Type 0 where
  pub entity : Entity
  pub there : slice_get L.entities e ≡ Some entity
  pub kind : entity.kind ≡ k

-- p is the owner of entity e
pub record Owns (L : Lists) (p e : ℕ) : Type 0 where
  pub entity : Entity
  pub there : slice_get L.entities e ≡ Some entity
  pub owner : entity.owner ≡ p

pub data Principal (L : Lists) (p : ℕ) : Type 0 where
  an_account : Is L kind.Account p → Principal L p
  a_role : Is L kind.Role p → Principal L p

-- the right on its entity that lets an account enter an object
abbrev pub entry_right : Object → Right
entry_right (object.Procedure e) = Execute
entry_right (object.Triggers e event) = event_right event
entry_right (object.Created e) = Execute

pub data IsObject (L : Lists) : Object → Type 0 where
  a_procedure : {e : ℕ} → Is L kind.Procedure e → IsObject L (object.Procedure e)
  a_trigger : {e : ℕ} {event : Event} → Is L kind.Table e → IsObject L (object.Triggers e event)
  created : {e : ℕ} (i : Is L kind.Container e) → i.entity.mode ≡ Parent → IsObject L (object.Created e)

-- the entities of two objects have one owner
pub record OneOwner (L : Lists) (x y : Object) : Type 0 where
  pub owner : ℕ
  pub first : Owns L owner (place_of x)
  pub second : Owns L owner (place_of y)

-- an action that names what stands, each of a kind that fits its place
pub data Proper (L : Lists) : Action → Type 0 where
  a_call : {y : Object} → IsObject L y → Proper L (action.Call y)
  a_grant : {g : RightRecord} → Principal L g.principal → Stands L g.entity → Proper L (action.Grant g)
  a_join : {m : Member} → Is L kind.Account m.account → Is L kind.Role m.role → Proper L (action.Join m)
