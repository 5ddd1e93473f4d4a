-- Rows that tell what an account holds and may grant.
use Rattle.std.specs.Prelude.{ℕ, ◌<◌, List, ◌++◌, Decides}
use Rattle.access.specs.declared.rights.Right.{Right}
use Rattle.access.specs.declared.rights.RightRecord.{RightRecord}
use Rattle.access.specs.declared.roles.Member.{Member}
use Rattle.access.specs.declared.sets.RightSet.{RightSet}
use Rattle.access.specs.Lists.{◌∈◌, Lists, public}
use Rattle.access.specs.Numbers.{right_number}
use Rattle.access.specs.Orders.{RoleBelow}
use Rattle.access.specs.Sets.{told}
use Rattle.runs.specs.States.{State, Sub}
use Rattle.runs.specs.Rights.{member_record, Holds, MayGrant}

-- the account itself, or a role that it is in by these member records
pub data AsOne (L : Lists) (ms : List Member) (a : ℕ) : ℕ → Type 0 where
  itself : AsOne L ms a a
  as_anyone : {q : ℕ} → RoleBelow L.entities L.links q public → AsOne L ms a q
  as_member : {q s : ℕ} → member_record a s ∈ ms → RoleBelow L.entities L.links q s → AsOne L ms a q

-- the records of the state are the catalogue's and these, in any order
pub record Recorded (L : Lists) (grants : List RightRecord) (joins : List Member) (S : State) : Type 0 where
  pub rights : Sub S.rights (L.rights ++ grants)
  pub all_rights : Sub (L.rights ++ grants) S.rights
  pub members : Sub S.members (L.members ++ joins)
  pub all_members : Sub (L.members ++ joins) S.members

-- the two rows tell what account a holds and may grant
pub record Rowed (L : Lists) (S : State) (a : ℕ) (held granted : List RightSet) : Type 0 where
  pub holds : (e : ℕ) (r : Right) → e < 96 → Decides (told held e (right_number r)) (Holds L S a e r)
  pub grants : (e : ℕ) (r : Right) → e < 96 → Decides (told granted e (right_number r)) (MayGrant L S a e r)
