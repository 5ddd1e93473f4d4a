-- How much there is for a run to add to a catalogue.
use Rattle.std.specs.Prelude.{◌≡◌, ℕ, ◌≤◌, true, List, [], ◌∷◌, length}
use Rattle.access.specs.declared.entities.Kind.TheVariants.{Account, Role}
use Rattle.access.specs.declared.rights.RightRecord.{RightRecord}
use Rattle.access.specs.declared.roles.Member.{Member}
use Rattle.access.specs.Lists.{◌∈◌, Lists, public}
use Rattle.runs.specs.declared.steps.Entry.{Entry}
use Rattle.runs.specs.Standing.{Is, IsObject, Stands}

-- no element comes twice
pub data Distinct {A : Type 0} : List A → Type 0 where
  none : Distinct []
  one_more : {xs : List A} {x : A} → Distinct xs → (x ∈ xs → ⊥) → Distinct (x ∷ xs)

abbrev pub Each : {A : Type 0} → (A → Type 0) → List A → Type 0
Each {A} P xs = (x : A) → x ∈ xs → P x

-- a right that everyone is given, with the option
pub record Opened (L : Lists) (g : RightRecord) : Type 0 where
  pub principal : g.principal ≡ public
  pub stands : Stands L g.entity
  pub option : g.option ≡ true

pub record Joins (L : Lists) (m : Member) : Type 0 where
  pub account : Is L Account m.account
  pub role : Is L Role m.role

pub record Enters (L : Lists) (n : Entry) : Type 0 where
  pub object : IsObject L n.object
  pub account : Is L Account n.account

-- lists without repetition of accounts, of rights for everyone, of members and of entered pairs are short
pub record Limits (L : Lists) : Type 0 where
  pub acted : (xs : List ℕ) → Distinct xs → Each (Is L Account) xs → length xs ≤ 16
  pub grants : (xs : List RightRecord) → Distinct xs → Each (Opened L) xs → length xs ≤ 672
  pub joins : (xs : List Member) → Distinct xs → Each (Joins L) xs → length xs ≤ 256
  pub entered : (xs : List Entry) → Distinct xs → Each (Enters L) xs → length xs ≤ 1536
