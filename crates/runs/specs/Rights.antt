-- Who has, holds and may grant a right, and who may enter an object.
use Rattle.std.specs.Prelude.{ℕ, Bool, true}
use Rattle.access.specs.declared.rights.Right.{Right}
use Rattle.access.specs.declared.rights.RightRecord.{RightRecord}
use Rattle.access.specs.declared.roles.Member.{Member}
use Rattle.access.specs.declared.code.Object.{Object}
use Rattle.access.specs.Lists.{◌∈◌, Lists, public}
use Rattle.access.specs.Orders.{RoleBelow, Within}
use Rattle.access.specs.Places.{place_of}
use Rattle.runs.specs.Standing.{Owns, entry_right}
use Rattle.runs.specs.States.{State}

abbrev pub right_record : ℕ → ℕ → Right → Bool → RightRecord
right_record p e r o = record { principal = p; entity = e; right = r; option = o }

abbrev pub member_record : ℕ → ℕ → Member
member_record v q = record { account = v; role = q }

module _ (L : Lists) (S : State) where
  -- principal p has the right on e
  pub data Has (p e : ℕ) (r : Right) : Type 0 where
    by_record : {d : ℕ} {o : Bool} → Within L.entities e d → right_record p d r o ∈ S.rights → Has p e r
    by_owning : {d : ℕ} → Within L.entities e d → Owns L p d → Has p e r

  -- principal p can grant the right on e
  pub data CanGrant (p e : ℕ) (r : Right) : Type 0 where
    by_option : right_record p e r true ∈ S.rights → CanGrant p e r
    by_owning : {d : ℕ} → Within L.entities e d → Owns L p d → CanGrant p e r

  -- account a is in role q
  pub data InRole (a q : ℕ) : Type 0 where
    as_anyone : RoleBelow L.entities L.links q public → InRole a q
    as_member : {s : ℕ} → member_record a s ∈ S.members → RoleBelow L.entities L.links q s → InRole a q

  -- account a, or a role that it is in, has the right on e
  pub data Holds (a e : ℕ) (r : Right) : Type 0 where
    itself : Has a e r → Holds a e r
    in_role : {q : ℕ} → InRole a q → Has q e r → Holds a e r

  -- account a, or a role that it is in, can grant the right on e
  pub data MayGrant (a e : ℕ) (r : Right) : Type 0 where
    itself : CanGrant a e r → MayGrant a e r
    in_role : {q : ℕ} → InRole a q → CanGrant q e r → MayGrant a e r

  abbrev pub MayEnter : ℕ → Object → Type 0
  MayEnter a x = Holds a (place_of x) (entry_right x)
