-- What a catalogue means: five lists; and what stands in them.
use Rattle.std.specs.Prelude.{ℕ, Bool, true, false, List, [], ◌∷◌, is_some, Some, None, Option}
use mathlib.Core.List.{Memᴰ}
use Rattle.std.specs.List.{slice_get}
use Rattle.access.specs.declared.entities.Kind.{Kind}
use Rattle.access.specs.declared.entities.Kind.TheVariants.{Container, Table, Procedure, Account, Role}
use Rattle.access.specs.declared.entities.Mode.TheVariants.{Creator}
use Rattle.access.specs.declared.entities.Entity.{Entity}
use Rattle.access.specs.declared.roles.Link.{Link}
use Rattle.access.specs.declared.rights.RightRecord.{RightRecord}
use Rattle.access.specs.declared.roles.Member.{Member}
use Rattle.access.specs.declared.code.Line.{Line}

infix 40 ◌∈◌
abbrev pub ◌∈◌ : {A : Type 0} → A → List A → Type 0
x ∈ xs = Memᴰ x xs

pub record Lists : Type 0 where
  pub entities : List Entity
  pub links : List Link
  pub rights : List RightRecord
  pub members : List Member
  pub lines : List Line

-- the role that everyone is in, and the role that is above all others
abbrev pub public : ℕ
public = 1

abbrev pub sysadmin : ℕ
sysadmin = 2

abbrev pub first_entity : Kind → Entity
first_entity k = record { kind = k; parent = 0; owner = sysadmin; mode = Creator }

-- the root container, the role public and the role sysadmin
abbrev pub new_entities : List Entity
new_entities = first_entity Container ∷ first_entity Role ∷ first_entity Role ∷ []

abbrev pub new_lists : Lists
new_lists = record { entities = new_entities; links = []; rights = []; members = []; lines = [] }

-- an entity stands at the number
abbrev pub stands : List Entity → ℕ → Bool
stands es n = is_some (slice_get es n)

abbrev pub is_container : Kind → Bool
is_container Container = true
is_container Table = false
is_container Procedure = false
is_container Account = false
is_container Role = false

abbrev pub is_table : Kind → Bool
is_table Container = false
is_table Table = true
is_table Procedure = false
is_table Account = false
is_table Role = false

abbrev pub is_procedure : Kind → Bool
is_procedure Container = false
is_procedure Table = false
is_procedure Procedure = true
is_procedure Account = false
is_procedure Role = false

abbrev pub is_account : Kind → Bool
is_account Container = false
is_account Table = false
is_account Procedure = false
is_account Account = true
is_account Role = false

abbrev pub is_role : Kind → Bool
is_role Container = false
is_role Table = false
is_role Procedure = false
is_role Account = false
is_role Role = true

abbrev pub is_principal : Kind → Bool
is_principal Container = false
is_principal Table = false
is_principal Procedure = false
is_principal Account = true
is_principal Role = true

-- the kind passes the test, if there is one
abbrev pub passes : (Kind → Bool) → Option Entity → Bool
passes test None = false
passes test (Some e) = test e.kind

-- an entity stands at the number, and its kind passes the test
abbrev pub fits : (Kind → Bool) → List Entity → ℕ → Bool
fits test es n = passes test (slice_get es n)
