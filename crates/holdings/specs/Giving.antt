-- What entities and records give to the tables.
use Rattle.std.specs.Prelude.{◌≡◌, ℕ, zero, suc, ◌<◌, Bool, true, false, ◌&&◌, ◌||◌, List, Some, None, Option, ◌==◌, nat_lt}
use Rattle.std.specs.List.{slice_get}
use Rattle.access.specs.declared.entities.Kind.{Kind}
use Rattle.access.specs.declared.entities.Kind.TheVariants as kind
use Rattle.access.specs.declared.entities.Mode.TheVariants.{Parent}
use Rattle.access.specs.declared.entities.Entity.{Entity}
use Rattle.access.specs.declared.rights.RightRecord.{RightRecord}
use Rattle.access.specs.declared.roles.Member.{Member}
use Rattle.access.specs.declared.code.Object.{Object}
use Rattle.access.specs.declared.code.Object.TheVariants as object
use Rattle.access.specs.Lists.{Lists}
use Rattle.access.specs.Numbers.{kind_number, right_number, mode_number}
use Rattle.access.specs.Orders.{RoleBelow}
use Rattle.access.specs.Places.{place_of}
use Rattle.grid.specs.Grids.{noted}
use Rattle.lookup.specs.Records.{opens}
use Rattle.lookup.specs.Tables.{sort_number}
use Rattle.runs.specs.Standing.{entry_right}

-- the entity is of this kind
abbrev pub is_kind : Kind → Option Entity → Bool
is_kind k None = false
is_kind k (Some x) = kind_number x.kind == kind_number k

-- the entity is a container of mode 1
abbrev pub is_host : Option Entity → Bool
is_host None = false
is_host (Some x) = kind_number x.kind == kind_number kind.Container && mode_number x.mode == mode_number Parent

-- the entity's owner is o
abbrev pub owner_is : ℕ → Option Entity → Bool
owner_is o None = false
owner_is o (Some x) = o == x.owner

-- the object's place is of a kind that fits its sort
abbrev pub is_object : List Entity → Object → Bool
is_object es (object.Procedure e) = is_kind kind.Procedure (slice_get es e)
is_object es (object.Triggers e event) = is_kind kind.Table (slice_get es e)
is_object es (object.Created e) = is_host (slice_get es e)

-- some number below n passes
abbrev pub any_below : (ℕ → Bool) → ℕ → Bool
any_below test zero = false
any_below test (suc n) = test n || any_below test n

-- p is the principal q, which the tables have room for
abbrev pub same_one : ℕ → ℕ → Bool
same_one p q = p == q && nat_lt p 96

-- the record gives p right k
abbrev pub gives : ℕ → ℕ → RightRecord → Bool
gives p k g = same_one p g.principal && k == right_number g.right

-- the record has the option, on e
abbrev pub lets : ℕ → RightRecord → Bool
lets e g = g.option && (e == g.entity && nat_lt e 128)

-- by the record p has right k on e, and can grant it, where `inside` says what is in an entity
abbrev pub has_by : List ℕ → ℕ → ℕ → ℕ → RightRecord → Bool
has_by inside p k e g = gives p k g && noted inside g.entity e

abbrev pub can_by : ℕ → ℕ → ℕ → RightRecord → Bool
can_by p k e g = gives p k g && lets e g

-- p owns entity x, and e is in it
abbrev pub owns_over : List Entity → List ℕ → ℕ → ℕ → ℕ → Bool
owns_over es inside p e x = (owner_is p (slice_get es x) && nat_lt p 96) && noted inside x e

-- the record gives everyone right k on e with the option
abbrev pub opens_one : ℕ → ℕ → RightRecord → Bool
opens_one e k g = opens e k g && nat_lt e 128

-- the record puts p into a role that has right k on e
abbrev pub joined_has : (ℕ → ℕ → ℕ → Bool) → ℕ → ℕ → ℕ → Member → Bool
joined_has roles p k e m = same_one p m.account && roles m.role k e

-- account a has the right to enter object x, which is in the table of objects
abbrev pub enters_by : (ℕ → ℕ → ℕ → Bool) → List ℕ → ℕ → Object → Bool
enters_by accounts objects a x = accounts a (right_number (entry_right x)) (place_of x) && noted objects (sort_number x) (place_of x)

-- a role at or below q, with a number below n, has right k on e
pub record Lent (L : Lists) (base : ℕ → ℕ → ℕ → Bool) (n q k e : ℕ) : Type 0 where
  pub role : ℕ
  pub small : role < n
  pub below : RoleBelow L.entities L.links role q
  pub has : base role k e ≡ true
