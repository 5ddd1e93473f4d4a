-- Rows that are kept.
use Rattle.std.specs.Prelude.{◌≡◌, ℕ, ◌+◌, ◌<◌, true, ◌⊎◌, List, ◌++◌, length, Option, None, Some, get_or}
use Rattle.access.specs.declared.rights.Right.{Right}
use Rattle.access.specs.declared.rights.RightRecord.{RightRecord}
use Rattle.access.specs.declared.roles.Member.{Member}
use Rattle.access.specs.declared.sets.RightSet.{RightSet}
use Rattle.access.specs.Lists.{◌∈◌, Lists, public}
use Rattle.access.specs.Numbers.{right_number}
use Rattle.access.specs.Orders.{Within}
use Rattle.access.specs.Sets.{told}
use Rattle.runs.specs.Rights.{right_record}
use Rattle.runs.specs.States.{State}
use Rattle.session.specs.Rowed.{Rowed}
use Rattle.session.specs.declared.models.holding.Rows.{Rows}
use Rattle.saturation.specs.declared.keeping.OwnRows.{OwnRows}
use Rattle.saturation.specs.declared.keeping.CarriedRow.{CarriedRow}
use Rattle.saturation.specs.declared.keeping.AllRows.{AllRows}
use Rattle.saturation.specs.declared.keeping.Sources.{Sources}
use Rattle.saturation.specs.declared.keeping.KeptRows.{KeptRows}

-- the records of T are those of S, with others put before them
pub record Onward (S T : State) : Type 0 where
  pub rights : (more : List RightRecord) × (T.rights ≡ more ++ S.rights)
  pub members : (more : List Member) × (T.members ≡ more ++ S.members)

-- the state with the catalogue's rights alone
abbrev pub bare : Lists → State → State
bare L S = record { acted = S.acted; rights = L.rights; members = S.members; planted = S.planted; entered = S.entered }

-- the row tells what everyone holds by records that give everyone a right with the option, but for the catalogue's
pub record Carries (L : Lists) (S : State) (row : List RightSet) : Type 0 where
  pub sound : (e : ℕ) (r : Right) → e < 96 → told row e (right_number r) ≡ true → (d : ℕ) × Within L.entities e d × (right_record public d r true ∈ S.rights)
  pub full : (e d : ℕ) (r : Right) → e < 96 → Within L.entities e d → right_record public d r true ∈ S.rights
      → (right_record public d r true ∈ L.rights) ⊎ (told row e (right_number r) ≡ true)

-- the rows at the number of an account tell of it in the state
abbrev pub TellsOf : Lists → State → List (Option Rows) → Type 0
TellsOf L S of = (a : ℕ) (r : Rows) → get_or of a None ≡ Some r → Rowed L S a r.holds.sets r.grants.sets

-- the rows tell of accounts by the catalogue's rights, in a state with as many members as they say
pub record FreshOwn (L : Lists) (S : State) (k : OwnRows) : Type 0 where
  pub members : length S.members ≡ k.joins + length L.members
  pub tells : TellsOf L (bare L S) k.of

-- the row tells of everyone, in a state with as many rights
pub record FreshCarried (L : Lists) (S : State) (k : CarriedRow) : Type 0 where
  pub rights : length S.rights ≡ k.grants + length L.rights
  pub carries : Carries L S k.row.sets

-- the rows tell of accounts, in a state with as many rights and members
pub record FreshAll (L : Lists) (S : State) (k : AllRows) : Type 0 where
  pub rights : length S.rights ≡ k.grants + length L.rights
  pub members : length S.members ≡ k.joins + length L.members
  pub tells : TellsOf L S k.of

-- they did so in a state before this one
pub record Since (S : State) (Fresh : State → Type 0) : Type 0 where
  pub before : State
  pub onward : Onward before S
  pub fresh : Fresh before

abbrev pub KeepsOwn : Lists → State → OwnRows → Type 0
KeepsOwn L S k = Since S (λ T. FreshOwn L T k)

abbrev pub KeepsCarried : Lists → State → CarriedRow → Type 0
KeepsCarried L S k = Since S (λ T. FreshCarried L T k)

abbrev pub KeepsAll : Lists → State → AllRows → Type 0
KeepsAll L S k = Since S (λ T. FreshAll L T k)

pub record KeepsSources (L : Lists) (S : State) (k : Sources) : Type 0 where
  pub own : KeepsOwn L S k.own
  pub carried : KeepsCarried L S k.carried

pub record Keeps (L : Lists) (S : State) (k : KeptRows) : Type 0 where
  pub sources : KeepsSources L S k.sources
  pub all : KeepsAll L S k.all
