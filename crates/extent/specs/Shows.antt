-- The state that an extent shows.
use Rattle.std.specs.Prelude.{◌≡◌, ℕ, ◌+◌, ◌<◌, ◌≤◌, true, ◌⊎◌, ◌↔◌, List, length, Decides}
use Rattle.access.specs.declared.entities.Kind.TheVariants.{Account}
use Rattle.access.specs.declared.rights.Right.{Right}
use Rattle.access.specs.declared.rights.RightRecord.{RightRecord}
use Rattle.access.specs.declared.roles.Member.{Member}
use Rattle.access.specs.declared.code.Object.{Object}
use Rattle.access.specs.Bits.{bit}
use Rattle.access.specs.Lists.{◌∈◌, Lists, public}
use Rattle.access.specs.Numbers.{right_number}
use Rattle.access.specs.Places.{place_of}
use Rattle.grid.specs.Grids.{noted}
use Rattle.runs.specs.declared.steps.Entry.{Entry}
use Rattle.runs.specs.Standing.{Is}
use Rattle.runs.specs.States.{State, Sub, Part, start, pair}
use Rattle.runs.specs.Rights.{right_record, member_record, Holds, MayGrant}
use Rattle.runs.specs.Saturated.{Realized}
use Rattle.runs.specs.Limits.{Distinct, Each, Opened, Joins}
use Rattle.holdings.specs.Told.{at_rest}
use Rattle.extent.specs.declared.extents.Extent.{Extent}
use Rattle.extent.specs.Tests.{entrant, entry}

-- the sets are those of the state; besides the catalogue's it has rights for everyone with the option, and members of the roles that all were put into
pub record Shows (L : Lists) (s : Extent) (F : State) : Type 0 where
  pub acted : (v : ℕ) → Decides (bit s.acted v) (v ∈ F.acted)
  pub given : (e : ℕ) (r : Right) → Decides (noted s.given.rows (right_number r) e) (right_record public e r true ∈ F.rights)
  pub rights : (g : RightRecord) → g ∈ F.rights → (g ∈ L.rights) ⊎ (g ≡ right_record public g.entity g.right true)
  pub members : (m : Member) → m ∈ F.members → (m ∈ L.members) ⊎ (bit s.joined m.role ≡ true)
  pub joined : (v q : ℕ) → bit s.joined q ≡ true → Is L Account v → member_record v q ∈ F.members
  pub entrants : (x : Object) (v : ℕ) → place_of x < 96 → Decides (entrant s x v) (pair x v ∈ F.entered)
  pub entered : (x : Object) (v : ℕ) → v < 96 → Decides (entry s x v) (pair x v ∈ F.entered)
  pub places : (e : ℕ) → Decides (bit s.places e) ((n : Entry) × (n ∈ F.entered) × (place_of n.object ≡ e))
  pub holds : (a e : ℕ) (r : Right) → Is L Account a → Holds L F a e r ↔ (Holds L (at_rest L) a e r ⊎ (noted s.holds.rows (right_number r) e ≡ true))
  pub grants : (a e : ℕ) (r : Right) → Is L Account a → MayGrant L F a e r ↔ (MayGrant L (at_rest L) a e r ⊎ (noted s.grants.rows (right_number r) e ≡ true))

-- no more was added than there is in lists without repetition
pub record Counted (L : Lists) (s : Extent) (F : State) : Type 0 where
  pub rights : List RightRecord
  pub members : List Member
  pub acted : Distinct F.acted
  pub entered : Distinct F.entered
  pub distinct_rights : Distinct rights
  pub distinct_members : Distinct members
  pub opened : Each (Opened L) rights
  pub joins : Each (Joins L) members
  pub among_rights : Sub rights F.rights
  pub among_joined : (m : Member) → m ∈ members → bit s.joined m.role ≡ true
  pub few : s.count + 1 ≤ length F.acted + length rights + length members + length F.entered

-- an extent of a session of its opener: some run comes to the state that it shows
pub record Came (L : Lists) (s : Extent) : Type 0 where
  pub state : State
  pub opener : Is L Account s.opener
  pub realized : Realized L s.opener state
  pub begun : Part (start L s.opener) state
  pub shows : Shows L s state
  pub counted : Counted L s state
