-- What the tables of a catalogue tell.
use Rattle.std.specs.Prelude.{◌≡◌, ℕ, true, [], Decides}
use Rattle.access.specs.declared.entities.Kind.TheVariants.{Account, Role}
use Rattle.access.specs.declared.rights.Right.{Right}
use Rattle.access.specs.declared.code.Object.{Object}
use Rattle.access.specs.Bits.{bit}
use Rattle.access.specs.Lists.{◌∈◌, Lists, public}
use Rattle.access.specs.Numbers.{right_number}
use Rattle.access.specs.Orders.{RoleBelow, Within}
use Rattle.access.specs.Places.{place_of}
use Rattle.grid.specs.Grids.{noted}
use Rattle.lookup.specs.Tables.{sort_number, slot_of}
use Rattle.runs.specs.Standing.{Is, IsObject, Owns, entry_right}
use Rattle.runs.specs.States.{State}
use Rattle.runs.specs.Rights.{right_record, Has, CanGrant, Holds, MayGrant}
use Rattle.holdings.specs.declared.tables.Holdings.{Holdings}
use Rattle.holdings.specs.Rows.{has, can}
use Rattle.holdings.specs.Calls.{CallsTold}

-- the catalogue's records, with no session
abbrev pub at_rest : Lists → State
at_rest L = record { acted = []; rights = L.rights; members = L.members; planted = []; entered = [] }

-- a role at or below q has the right on e, or can grant it, by the catalogue
pub record HasBelow (L : Lists) (q e : ℕ) (r : Right) : Type 0 where
  pub role : ℕ
  pub below : RoleBelow L.entities L.links role q
  pub has : Has L (at_rest L) role e r

pub record CanBelow (L : Lists) (q e : ℕ) (r : Right) : Type 0 where
  pub role : ℕ
  pub below : RoleBelow L.entities L.links role q
  pub can : CanGrant L (at_rest L) role e r

pub record Told (L : Lists) (h : Holdings) : Type 0 where
  -- which entities are accounts, roles, and places of objects of each sort
  pub accounts : (v : ℕ) → Decides (bit h.accounts v) (Is L Account v)
  pub roles : (q : ℕ) → Decides (bit h.roles q) (Is L Role q)
  pub objects : (x : Object) → Decides (noted h.objects.rows (sort_number x) (place_of x)) (IsObject L x)
  -- what is at or in each entity, and what each principal owns
  pub within : (d e : ℕ) → Decides (noted h.within.rows d e) (Within L.entities e d)
  pub owned : (o e : ℕ) → Decides (noted h.owned.rows o e) (Owns L o e)
  pub owners : (o e : ℕ) → Owns L o e → bit h.owners o ≡ true
  -- what everyone is given with the option
  pub given : (e : ℕ) (r : Right) → Decides (noted h.given.rows (right_number r) e) (right_record public e r true ∈ L.rights)
  -- what accounts hold and may grant
  pub holds : (a e : ℕ) (r : Right) → Is L Account a → Decides (has h.of_accounts a (right_number r) e) (Holds L (at_rest L) a e r)
  pub grants : (a e : ℕ) (r : Right) → Is L Account a → Decides (can h.of_accounts a (right_number r) e) (MayGrant L (at_rest L) a e r)
  -- who may enter each object
  pub enterers : (x : Object) (a : ℕ) → IsObject L x → Is L Account a → Decides (noted h.enterers.rows (slot_of x) a) (Holds L (at_rest L) a (place_of x) (entry_right x))
  -- what members of roles do by them
  pub role_holds : (q e : ℕ) (r : Right) → Is L Role q → Decides (has h.of_roles q (right_number r) e) (HasBelow L q e r)
  pub role_grants : (q e : ℕ) (r : Right) → Is L Role q → Decides (can h.of_roles q (right_number r) e) (CanBelow L q e r)
  -- the numbers of lines
  pub calls : CallsTold L h.calls
