-- What is marked in a row.
use Rattle.std.specs.Prelude.{ℕ, ◌<◌, Bool, false, not, ◌&&◌, ◌||◌, List, Some, None, Option, ◌==◌, nat_lt, Decides}
use Rattle.std.specs.List.{slice_get}
use Rattle.access.specs.declared.entities.Entity.{Entity}
use Rattle.access.specs.declared.rights.RightRecord.{RightRecord}
use Rattle.access.specs.declared.roles.Member.{Member}
use Rattle.access.specs.declared.sets.RightSet.{RightSet}
use Rattle.access.specs.Numbers.{right_number}
use Rattle.access.specs.Sets.{told}

-- the row marks right k at x exactly where P holds of them
abbrev pub Says : List RightSet → (ℕ → ℕ → Type 0) → Type 0
Says sets P = (x k : ℕ) → x < 96 → Decides (told sets x k) (P x k)

-- the record puts account a into role x
abbrev pub in_role_of : ℕ → ℕ → Member → Bool
in_role_of a x m = m.account == a && x == m.role

-- the same, with all seven rights as the mark
abbrev pub marks_role : ℕ → ℕ → ℕ → Member → Bool
marks_role a x k m = in_role_of a x m && nat_lt k 7

-- the record is of right k on x, with the option where o asks it, and its principal is marked
abbrev pub gives_right : List RightSet → Bool → ℕ → ℕ → RightRecord → Bool
gives_right who o x k g = ((g.option || not o) && told who g.principal 0) && (x == g.entity && k == right_number g.right)

abbrev pub owner_marked : List RightSet → Option Entity → Bool
owner_marked who None = false
owner_marked who (Some e) = told who e.owner 0

-- the owner of entity x is marked
abbrev pub owned : List RightSet → List Entity → ℕ → Bool
owned who es x = owner_marked who (slice_get es x)
