-- What the rows of two accounts tell.
use Rattle.std.specs.Prelude.{◌≡◌, ℕ, List, length}
use Rattle.access.specs.Lists.{Lists}
use Rattle.rows.specs.Rows.{IsUnion}
use Rattle.survey.specs.Used.{IsRow, Compared}
use Rattle.survey.specs.Laws.{TellActing}
use Rattle.survey.specs.declared.reaching.Pair.{Pair}

-- the rows are those of accounts a and b, and they and their union tell which of the two can come to act as the other
pub record Paired (L : Lists) (a b : ℕ) (p : Pair) : Type 0 where
  pub first : IsRow L a p.first
  pub second : IsRow L b p.second
  pub compared : Compared L a b p.comparison
  pub acting : (union : List ℕ) → length union ≡ 96 → IsUnion p.first p.second union → TellActing L a b p.first p.second union
