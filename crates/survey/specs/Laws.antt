-- The laws of rows.
use Rattle.std.specs.Prelude.{◌≡◌, ℕ, ◌↔◌, List, length}
use Rattle.access.specs.declared.entities.Kind.TheVariants.{Account}
use Rattle.access.specs.Lists.{Lists}
use Rattle.catalogue.specs.Sound.{Sound}
use Rattle.rows.specs.Rows.{IsUnion}
use Rattle.runs.specs.Standing.{Is}
use Rattle.runs.specs.Runs.{ActsAs}
use Rattle.survey.specs.Used.{IsRow}

-- an account has one row
abbrev pub OneRow : Type 0
OneRow = (L : Lists) (a : ℕ) (xs ys : List ℕ) → IsRow L a xs → IsRow L a ys → xs ≡ ys

-- what the rows of two accounts, and their union, tell of who can come to act as whom
pub record TellActing (L : Lists) (a b : ℕ) (xs ys zs : List ℕ) : Type 0 where
  -- the rows are equal exactly when each account can come to act as the other
  pub equal : (xs ≡ ys) ↔ (ActsAs L a b × ActsAs L b a)
  -- the first row is the union exactly when its account can come to act as the other
  pub united : (xs ≡ zs) ↔ ActsAs L a b

abbrev pub RowsTellActing : Type 0
RowsTellActing =
    (L : Lists) (a b : ℕ) (xs ys zs : List ℕ) → Sound L → Is L Account a → Is L Account b → IsRow L a xs → IsRow L b ys
    → length zs ≡ 96 → IsUnion xs ys zs → TellActing L a b xs ys zs
