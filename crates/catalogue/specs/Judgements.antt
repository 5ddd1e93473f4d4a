-- Which record the numbers of a building call name, or why no book takes it.
use Rattle.std.specs.Prelude.{ℕ, Bool, true, false, cond, not, ◌&&◌, ◌||◌, List, [], ◌∷◌, length, is_some, Some, None, Ok, Err, count_by, Option, Result, ◌==◌, nat_lt}
use Rattle.std.specs.List.{slice_get}
use Rattle.std.specs.Option.{unwrap_or}
use Rattle.access.specs.declared.refusals.Refusal.TheVariants.{NotListed, WrongKind, NotGiven, Circular, Full}
use Rattle.access.specs.declared.entities.Kind.{Kind}
use Rattle.access.specs.declared.entities.Kind.TheVariants.{Container, Table, Procedure, Account, Role}
use Rattle.access.specs.declared.entities.Mode.{Mode}
use Rattle.access.specs.declared.entities.Mode.TheVariants.{Creator, Parent}
use Rattle.access.specs.declared.entities.Entity.{Entity}
use Rattle.access.specs.declared.rights.Right.TheVariants.{Select}
use Rattle.access.specs.declared.rights.RightRecord.{RightRecord}
use Rattle.access.specs.declared.roles.Link.{Link}
use Rattle.access.specs.declared.roles.Member.{Member}
use Rattle.access.specs.declared.code.Object.{Object}
use Rattle.access.specs.declared.code.Object.TheVariants as object
use Rattle.access.specs.declared.numbers.ObjectNumbers.{ObjectNumbers}
use Rattle.access.specs.declared.code.Runner.{Runner}
use Rattle.access.specs.declared.code.Runner.TheVariants as runner
use Rattle.access.specs.declared.code.Action.TheVariants as action
use Rattle.access.specs.declared.code.Line.{Line}
use Rattle.access.specs.Codes.{Code, code}
use Rattle.access.specs.Numbers.{kind_number, kind_at, mode_at, right_at, option_at, object_at, runner_at}
use Rattle.access.specs.Places.{place_of}
use Rattle.access.specs.Lists.{stands, fits, is_container, is_table, is_procedure, is_account, is_role, is_principal}
use Rattle.access.specs.Orders.{role_below}

-- a row of the table of refusals: whether it applies, and what is returned then
abbrev pub Reason : Type 0
Reason = Bool × Code

-- the upper row goes before the lower; where none applies, the value
abbrev pub judged : {X : Type 0} → List Reason → X → Result X Code
judged [] x = Ok x
judged (row ∷ rows) x = cond row.0 (Err row.1) (judged rows x)

-- Declare

abbrev pub in_parent : Mode → Bool
in_parent Creator = false
in_parent Parent = true

-- mode 1 is for containers only
abbrev pub mode_for : Kind → Option Mode → Bool
mode_for k None = false
mode_for k (Some Creator) = true
mode_for k (Some Parent) = is_container k

-- the rules give this parent: the root to a principal, a container of mode 1 to a table or a procedure
abbrev pub parent_given : Kind → ℕ → Entity → Bool
parent_given Container p e = true
parent_given Table p e = in_parent e.mode
parent_given Procedure p e = in_parent e.mode
parent_given Account p e = p == 0
parent_given Role p e = p == 0

-- the rules give this owner: an account itself; any principal to a role or to a container under one of mode 0; else the parent's owner
abbrev pub owner_given : Kind → ℕ → ℕ → Entity → Bool
owner_given Container own o e = not (in_parent e.mode) || o == e.owner
owner_given Table own o e = o == e.owner
owner_given Procedure own o e = o == e.owner
owner_given Account own o e = o == own
owner_given Role own o e = true

abbrev pub given : Kind → ℕ → ℕ → ℕ → Option Entity → Bool
given k own p o None = false
given k own p o (Some parent) = parent_given k p parent && owner_given k own o parent

-- how many entities of a kind a book holds at most
abbrev pub limit_of : Kind → ℕ
limit_of Container = 16
limit_of Table = 16
limit_of Procedure = 32
limit_of Account = 16
limit_of Role = 16

abbrev pub of_kind : Kind → Entity → Bool
of_kind k e = kind_number e.kind == kind_number k

abbrev pub count_kind : Kind → List Entity → ℕ
count_kind k es = count_by (of_kind k) es

-- a new account's own number counts as standing
abbrev pub own_number : List Entity → ℕ → Kind → Bool
own_number es o k = is_account k && o == length es

abbrev pub entity_listed : List Entity → ℕ → ℕ → Option Mode → Kind → Bool
entity_listed es p o m k = mode_for k m && (stands es p && (stands es o || own_number es o k))

abbrev pub entity_fits : List Entity → ℕ → ℕ → Kind → Bool
entity_fits es p o k = fits is_container es p && (fits is_principal es o || own_number es o k)

abbrev pub entity_reasons : List Entity → ℕ → ℕ → Option Mode → Kind → List Reason
entity_reasons es p o m k =
    (not (entity_listed es p o m k), code NotListed)
    ∷ (not (entity_fits es p o k), code WrongKind)
    ∷ (not (given k (length es) p o (slice_get es p)), code NotGiven)
    ∷ (not (nat_lt (count_kind k es) (limit_of k)), code Full)
    ∷ []

abbrev pub entity_named : ℕ → ℕ → Option Mode → Kind → Entity
entity_named p o m k = record { kind = k; parent = p; owner = o; mode = unwrap_or m Creator }

abbrev pub judged_kind : List Entity → ℕ → ℕ → Option Mode → Option Kind → Result Entity Code
judged_kind es p o m None = Err (code NotListed)
judged_kind es p o m (Some k) = judged (entity_reasons es p o m k) (entity_named p o m k)

abbrev pub judged_entity : List Entity → ℕ → ℕ → ℕ → ℕ → Result Entity Code
judged_entity es k p o m = judged_kind es p o (mode_at m) (kind_at k)

-- Link

abbrev pub link_reasons : List Entity → List Link → ℕ → ℕ → List Reason
link_reasons es links l u =
    (not (stands es l && stands es u), code NotListed)
    ∷ (not (fits is_role es l && fits is_role es u), code WrongKind)
    ∷ (l == u || role_below es links u l, code Circular)
    ∷ []

abbrev pub link_named : ℕ → ℕ → Link
link_named l u = record { lower = l; upper = u }

abbrev pub judged_link : List Entity → List Link → ℕ → ℕ → Result Link Code
judged_link es links l u = judged (link_reasons es links l u) (link_named l u)

-- Grant

abbrev pub right_reasons : List Entity → ℕ → ℕ → ℕ → ℕ → List Reason
right_reasons es p e a o =
    (not (is_some (right_at a) && (is_some (option_at o) && (stands es p && stands es e))), code NotListed)
    ∷ (not (fits is_principal es p), code WrongKind)
    ∷ []

abbrev pub right_named : ℕ → ℕ → ℕ → ℕ → RightRecord
right_named p e a o = record { principal = p; entity = e; right = unwrap_or (right_at a) Select; option = unwrap_or (option_at o) false }

abbrev pub judged_right : List Entity → ℕ → ℕ → ℕ → ℕ → Result RightRecord Code
judged_right es p e a o = judged (right_reasons es p e a o) (right_named p e a o)

-- Join

abbrev pub member_reasons : List Entity → ℕ → ℕ → List Reason
member_reasons es a r =
    (not (stands es a && stands es r), code NotListed)
    ∷ (not (fits is_account es a && fits is_role es r), code WrongKind)
    ∷ []

abbrev pub member_named : ℕ → ℕ → Member
member_named a r = record { account = a; role = r }

abbrev pub judged_member : List Entity → ℕ → ℕ → Result Member Code
judged_member es a r = judged (member_reasons es a r) (member_named a r)

-- Line

-- an object that can stand in a catalogue: a procedure, or a table's triggers
abbrev pub object_fits : List Entity → Object → Bool
object_fits es (object.Procedure e) = fits is_procedure es e
object_fits es (object.Triggers e event) = fits is_table es e
object_fits es (object.Created e) = false

abbrev pub runner_stands : List Entity → Runner → Bool
runner_stands es runner.Caller = true
runner_stands es (runner.Account n) = stands es n

abbrev pub runner_fits : List Entity → Runner → Bool
runner_fits es runner.Caller = true
runner_fits es (runner.Account n) = fits is_account es n

abbrev pub line_reasons : List Entity → Object → Runner → Object → List Reason
line_reasons es x r y =
    (not (stands es (place_of x) && (runner_stands es r && stands es (place_of y))), code NotListed)
    ∷ (not (object_fits es x && (runner_fits es r && object_fits es y)), code WrongKind)
    ∷ []

abbrev pub line_named : Object → Runner → Object → Line
line_named x r y = record { object = x; runner = r; action = action.Call y }

abbrev pub judged_objects : List Entity → Option Object → Runner → Option Object → Result Line Code
judged_objects es None r y = Err (code NotListed)
judged_objects es (Some x) r None = Err (code NotListed)
judged_objects es (Some x) r (Some y) = judged (line_reasons es x r y) (line_named x r y)

abbrev pub judged_line : List Entity → ObjectNumbers → ℕ → ObjectNumbers → Result Line Code
judged_line es x r y = judged_objects es (object_at x) (runner_at r) (object_at y)
