-- The bytes of records, one for each field, and bytes written at a place.
use Rattle.std.specs.Prelude.{ℕ, ◌+◌, Bool, true, false, List, [], ◌∷◌, ◌++◌, map, length, take, drop, Some, None, Option}
use Rattle.std.specs.List.{flat_map, slice_get}
use Rattle.std.specs.Option.{unwrap_or}
use Rattle.access.specs.declared.entities.Entity.{Entity}
use Rattle.access.specs.declared.rights.RightRecord.{RightRecord}
use Rattle.access.specs.declared.roles.Link.{Link}
use Rattle.access.specs.declared.roles.Member.{Member}
use Rattle.access.specs.declared.code.Object.{Object}
use Rattle.access.specs.declared.code.Object.TheVariants as object
use Rattle.access.specs.declared.numbers.ObjectNumbers.{ObjectNumbers}
use Rattle.access.specs.declared.code.Action.{Action}
use Rattle.access.specs.declared.code.Action.TheVariants as action
use Rattle.access.specs.declared.code.Line.{Line}
use Rattle.access.specs.Lists.{Lists}
use Rattle.access.specs.Numbers.{kind_number, mode_number, right_number, runner_number, object_numbers}
use Rattle.catalogue.specs.declared.names.ListName.{ListName}
use Rattle.catalogue.specs.declared.names.ListName.TheVariants.{Entities, Links, Rights, Members, Lines}

abbrev pub option_number : Bool → ℕ
option_number false = 0
option_number true = 1

abbrev pub entity_bytes : Entity → List ℕ
entity_bytes e = kind_number e.kind ∷ e.parent ∷ e.owner ∷ mode_number e.mode ∷ []

abbrev pub link_bytes : Link → List ℕ
link_bytes k = k.lower ∷ k.upper ∷ []

abbrev pub right_bytes : RightRecord → List ℕ
right_bytes r = r.principal ∷ r.entity ∷ right_number r.right ∷ option_number r.option ∷ []

abbrev pub member_bytes : Member → List ℕ
member_bytes m = m.account ∷ m.role ∷ []

-- the object that a line calls; no other action stands in a catalogue
abbrev pub called_by : Action → Object
called_by (action.Call x) = x
called_by (action.Grant g) = object.Procedure 0
called_by (action.Join m) = object.Procedure 0

-- kind, entity and right of an object; what a session creates stands in no catalogue
abbrev pub numbers_of : Object → ObjectNumbers
numbers_of x = unwrap_or (object_numbers x) (record { kind = 0; entity = 0; right = 0 })

abbrev pub line_bytes : Line → List ℕ
line_bytes c =
    (numbers_of c.object).kind ∷ (numbers_of c.object).entity ∷ (numbers_of c.object).right ∷ runner_number c.runner
    ∷ (numbers_of (called_by c.action)).kind ∷ (numbers_of (called_by c.action)).entity ∷ (numbers_of (called_by c.action)).right ∷ []

-- the records of a list, each as its bytes
abbrev pub records_of : Lists → ListName → List (List ℕ)
records_of l Entities = map entity_bytes l.entities
records_of l Links = map link_bytes l.links
records_of l Rights = map right_bytes l.rights
records_of l Members = map member_bytes l.members
records_of l Lines = map line_bytes l.lines

-- lists of bytes one after another
abbrev pub strung : List (List ℕ) → List ℕ
strung bs = flat_map (λ b. b) bs

-- the bytes of a record that may be there
abbrev pub bytes_or : {X : Type 0} → (X → List ℕ) → Option X → List ℕ
bytes_or f None = []
bytes_or f (Some x) = f x

-- the bytes of record n of a list
abbrev pub record_at : Lists → ListName → ℕ → List ℕ
record_at l Entities n = bytes_or entity_bytes (slice_get l.entities n)
record_at l Links n = bytes_or link_bytes (slice_get l.links n)
record_at l Rights n = bytes_or right_bytes (slice_get l.rights n)
record_at l Members n = bytes_or member_bytes (slice_get l.members n)
record_at l Lines n = bytes_or line_bytes (slice_get l.lines n)

-- what a room holds when bytes have been written into it from a place on
abbrev pub written : List ℕ → ℕ → List ℕ → List ℕ
written room at bytes = take at room ++ (bytes ++ drop (at + length bytes) room)
