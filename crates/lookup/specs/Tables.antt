-- Tables that tell what stands in the state of a run.
use Rattle.std.specs.Prelude.{◌≡◌, ℕ, ◌+◌, ◌*◌, ◌<◌, Bool, true, Decides}
use Rattle.access.specs.declared.rights.Right.{Right}
use Rattle.access.specs.declared.roles.Member.{Member}
use Rattle.access.specs.declared.code.Object.{Object}
use Rattle.access.specs.declared.code.Object.TheVariants as object
use Rattle.access.specs.declared.code.Action.{Action}
use Rattle.access.specs.declared.code.Action.TheVariants as action
use Rattle.access.specs.Lists.{◌∈◌, public}
use Rattle.access.specs.Numbers.{event_right, right_number}
use Rattle.access.specs.Places.{place_of}
use Rattle.access.specs.Sets.{told}
use Rattle.runs.specs.declared.steps.Step.{Step}
use Rattle.runs.specs.declared.steps.Step.TheVariants.{Switch, Grant, Join, Plant, Call, Follow}
use Rattle.runs.specs.declared.steps.Entry.{Entry}
use Rattle.runs.specs.States.{State, pair}
use Rattle.runs.specs.Rights.{right_record}
use Rattle.runs.specs.Runs.{worker}
use Rattle.lookup.specs.declared.tables.Marks.{Marks}
use Rattle.grid.specs.Grids.{noted}

-- pairs, members, actions and steps whose numbers the tables have room for
abbrev pub SmallEntry : Entry → Type 0
SmallEntry n = (place_of n.object < 96) × (n.account < 96)

abbrev pub SmallMember : Member → Type 0
SmallMember m = (m.account < 96) × (m.role < 96)

-- an action of account w
abbrev pub SmallAction : ℕ → Action → Type 0
SmallAction w (action.Call y) = SmallEntry (pair y w)
SmallAction w (action.Grant g) = g.entity < 96
SmallAction w (action.Join m) = SmallMember m

abbrev pub SmallStep : Step → Type 0
SmallStep (Switch a v) = v < 96
SmallStep (Grant a g) = SmallAction a (action.Grant g)
SmallStep (Join a m) = SmallAction a (action.Join m)
SmallStep (Plant a l) = Unit {0}
SmallStep (Call a x) = SmallAction a (action.Call x)
SmallStep (Follow v l) = SmallAction (worker l.runner v) l.action

-- an action and a step of which the tables tell whether they add anything: a grant only to everyone and with the option, no plant
abbrev pub KnownAction : Action → Type 0
KnownAction (action.Call y) = Unit {0}
KnownAction (action.Grant g) = (g.principal ≡ public) × (g.option ≡ true)
KnownAction (action.Join m) = Unit {0}

abbrev pub Known : Step → Type 0
Known (Switch a v) = Unit {0}
Known (Grant a g) = KnownAction (action.Grant g)
Known (Join a m) = KnownAction (action.Join m)
Known (Plant a l) = ⊥
Known (Call a x) = KnownAction (action.Call x)
Known (Follow v l) = (y : Object) × (l.action ≡ action.Call y)

-- the tables of pairs have a part for each sort of object: procedures, the triggers of each event, and what a session creates
abbrev pub sort_number : Object → ℕ
sort_number (object.Procedure e) = 0
sort_number (object.Triggers e event) = right_number (event_right event)
sort_number (object.Created e) = 4

abbrev pub slot_of : Object → ℕ
slot_of x = place_of x + 96 * sort_number x

-- what the tables note
module _ (m : Marks) where
  abbrev pub account_noted : ℕ → Bool
  account_noted v = noted m.accounts.rows 0 v

  abbrev pub right_noted : ℕ → Right → Bool
  right_noted e r = told m.rights.sets e (right_number r)

  abbrev pub member_noted : Member → Bool
  member_noted j = noted m.members.rows j.role j.account

  abbrev pub entry_noted : Entry → Bool
  entry_noted n = noted m.entries.rows (slot_of n.object) n.account

-- the tables tell what stands in the state
pub record Marked (m : Marks) (S : State) : Type 0 where
  pub accounts : (v : ℕ) → v < 96 → Decides (account_noted m v) (v ∈ S.acted)
  pub rights : (e : ℕ) (r : Right) → e < 96 → Decides (right_noted m e r) (right_record public e r true ∈ S.rights)
  pub members : (j : Member) → SmallMember j → Decides (member_noted m j) (j ∈ S.members)
  pub entries : (n : Entry) → SmallEntry n → Decides (entry_noted m n) (n ∈ S.entered)
