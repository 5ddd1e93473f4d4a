-- The numbers by which calls and images name kinds, modes, rights, options, events, runners and objects.
use Rattle.std.specs.Prelude.{ℕ, zero, suc, Bool, true, false, cond, List, [], ◌∷◌, Some, None, Option, ◌==◌}
use Rattle.std.specs.List.{slice_get}
use Rattle.std.specs.Option.{option_map}
use Rattle.access.specs.declared.entities.Kind.{Kind}
use Rattle.access.specs.declared.entities.Kind.TheVariants.{Container, Table, Procedure, Account, Role}
use Rattle.access.specs.declared.entities.Mode.{Mode}
use Rattle.access.specs.declared.entities.Mode.TheVariants.{Creator, Parent}
use Rattle.access.specs.declared.rights.Right.{Right}
use Rattle.access.specs.declared.rights.Right.TheVariants.{Select, Insert, Update, Delete, Alter, Execute, Impersonate}
use Rattle.access.specs.declared.code.Event.{Event}
use Rattle.access.specs.declared.code.Event.TheVariants.{Inserted, Updated, Deleted}
use Rattle.access.specs.declared.code.Runner.{Runner}
use Rattle.access.specs.declared.code.Runner.TheVariants as runner
use Rattle.access.specs.declared.code.Object.{Object}
use Rattle.access.specs.declared.code.Object.TheVariants as object
use Rattle.access.specs.declared.numbers.ObjectNumbers.{ObjectNumbers}

-- each list has its cases in the order of their numbers, from 0
abbrev pub kinds : List Kind
kinds = Container ∷ Table ∷ Procedure ∷ Account ∷ Role ∷ []

abbrev pub modes : List Mode
modes = Creator ∷ Parent ∷ []

abbrev pub rights : List Right
rights = Select ∷ Insert ∷ Update ∷ Delete ∷ Alter ∷ Execute ∷ Impersonate ∷ []

abbrev pub kind_at : ℕ → Option Kind
kind_at n = slice_get kinds n

abbrev pub mode_at : ℕ → Option Mode
mode_at n = slice_get modes n

abbrev pub right_at : ℕ → Option Right
right_at n = slice_get rights n

abbrev pub option_at : ℕ → Option Bool
option_at n = slice_get (false ∷ true ∷ []) n

-- an event has the number of the right that sets it off, 1 to 3
abbrev pub event_at : ℕ → Option Event
event_at zero = None
event_at (suc n) = slice_get (Inserted ∷ Updated ∷ Deleted ∷ []) n

abbrev pub kind_number : Kind → ℕ
kind_number Container = 0
kind_number Table = 1
kind_number Procedure = 2
kind_number Account = 3
kind_number Role = 4

abbrev pub mode_number : Mode → ℕ
mode_number Creator = 0
mode_number Parent = 1

abbrev pub right_number : Right → ℕ
right_number Select = 0
right_number Insert = 1
right_number Update = 2
right_number Delete = 3
right_number Alter = 4
right_number Execute = 5
right_number Impersonate = 6

abbrev pub event_right : Event → Right
event_right Inserted = Insert
event_right Updated = Update
event_right Deleted = Delete

-- 255 is the caller, any other number an account
abbrev pub runner_at : ℕ → Runner
runner_at n = cond (n == 255) runner.Caller (runner.Account n)

abbrev pub runner_number : Runner → ℕ
runner_number runner.Caller = 255
runner_number (runner.Account n) = n

-- the object that the numbers (kind, entity, right) name: kind 0 is a procedure, with right 0; kind 1 a table's triggers
abbrev pub object_at : ObjectNumbers → Option Object
object_at n =
    cond (n.kind == 0) (cond (n.right == 0) (Some (object.Procedure n.entity)) None)
    (cond (n.kind == 1) (option_map (λ event. object.Triggers n.entity event) (event_at n.right)) None)

-- what a session creates stands in no catalogue, and has no numbers
abbrev pub object_numbers : Object → Option ObjectNumbers
object_numbers (object.Procedure e) = Some (record { kind = 0; entity = e; right = 0 })
object_numbers (object.Triggers e event) = Some (record { kind = 1; entity = e; right = right_number (event_right event) })
object_numbers (object.Created e) = None
