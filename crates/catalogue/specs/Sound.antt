-- Which lists a catalogue may mean, and which a book may hold.
use Rattle.std.specs.Prelude.{◌≡◌, ℕ, ◌≤◌, Bool, true, false, List, length, take, drop, is_ok, Some}
use Rattle.std.specs.List.{AllByRecursion}
use Rattle.access.specs.declared.entities.Entity.{Entity}
use Rattle.access.specs.declared.rights.RightRecord.{RightRecord}
use Rattle.access.specs.declared.roles.Link.{Link}
use Rattle.access.specs.declared.roles.Member.{Member}
use Rattle.access.specs.declared.code.Action.{Action}
use Rattle.access.specs.declared.code.Action.TheVariants as action
use Rattle.access.specs.declared.code.Line.{Line}
use Rattle.access.specs.Lists.{Lists, new_entities, stands, fits, is_principal, is_account, is_role}
use Rattle.access.specs.Orders.{InTurn, Linked}
use Rattle.catalogue.specs.Tables.{Once}
use Rattle.catalogue.specs.Alike.{same_link, same_right, same_member, same_line}
use Rattle.catalogue.specs.Judgements.{judged_kind, object_fits, runner_fits}

-- a book with these entities takes the record: its building call would not refuse it
abbrev pub TakesEntity : List Entity → Entity → Type 0
TakesEntity es e = is_ok (judged_kind es e.parent e.owner (Some e.mode) (Some e.kind)) ≡ true

abbrev pub TakesRight : List Entity → RightRecord → Type 0
TakesRight es r = (fits is_principal es r.principal ≡ true) × (stands es r.entity ≡ true)

abbrev pub TakesMember : List Entity → Member → Type 0
TakesMember es m = (fits is_account es m.account ≡ true) × (fits is_role es m.role ≡ true)

abbrev pub call_fits : List Entity → Action → Bool
call_fits es (action.Call y) = object_fits es y
call_fits es (action.Grant g) = false
call_fits es (action.Join m) = false

abbrev pub TakesLine : List Entity → Line → Type 0
TakesLine es l = (object_fits es l.object ≡ true) × (runner_fits es l.runner ≡ true) × (call_fits es l.action ≡ true)

-- the entities could stand in a book: those of a new book, and then others that were declared in turn
pub record Declared (es : List Entity) : Type 0 where
  pub first : take 3 es ≡ new_entities
  pub turns : InTurn TakesEntity new_entities (drop 3 es)

-- the links could stand in a book: none closed a circle when it came, none stands twice, and there are at most 64
pub record LinksStand (es : List Entity) (links : List Link) : Type 0 where
  pub linked : Linked es links
  pub once : Once same_link links
  pub few : length links ≤ 64

-- a list of a catalogue: a book would take each record, and there are at most 4,096
pub record Listed {X : Type 0} (takes : X → Type 0) (xs : List X) : Type 0 where
  pub fit : AllByRecursion takes xs
  pub few : length xs ≤ 4096

-- a list of a book: a book takes each record, none stands twice, and there are no more than its limit
pub record Filed {X : Type 0} (takes : X → Type 0) (alike : X → X → Bool) (limit : ℕ) (xs : List X) : Type 0 where
  pub fit : AllByRecursion takes xs
  pub once : Once alike xs
  pub few : length xs ≤ limit

-- what a catalogue may mean: entities and links that could stand in a book, other records that a book would take
pub record Sound (l : Lists) : Type 0 where
  pub entities : Declared l.entities
  pub links : LinksStand l.entities l.links
  pub rights : Listed (TakesRight l.entities) l.rights
  pub members : Listed (TakesMember l.entities) l.members
  pub lines : Listed (TakesLine l.entities) l.lines

-- what a book may hold
pub record Kept (l : Lists) : Type 0 where
  pub entities : Declared l.entities
  pub links : LinksStand l.entities l.links
  pub rights : Filed (TakesRight l.entities) same_right 256 l.rights
  pub members : Filed (TakesMember l.entities) same_member 128 l.members
  pub lines : Filed (TakesLine l.entities) same_line 256 l.lines
