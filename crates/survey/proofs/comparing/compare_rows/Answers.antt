use Rattle.std.proofs.lemmas.Bool.Decides.{Decides-at, Decides-like}
use Rattle.survey.proofs.Bytes.{contains_told}
use Rattle.survey.proofs.Telling.{acts_contains, contains_acts}
use Rattle.survey.proofs.comparing.compare_rows.Goals as goal

pub returns : goal.returns
returns c L a b s i j p q =
    let first = Decides-at _ _ c.contains.ensures (contains_told _ _ p.long q.long) in
    let second = Decides-at _ _ c.contains-2.ensures (contains_told _ _ q.long p.long) in
    record {
      contains = Decides-like _ (contains_acts p q s j) (acts_contains p q) first;
      contained = Decides-like _ (contains_acts q p s i) (acts_contains q p) second;
    }
