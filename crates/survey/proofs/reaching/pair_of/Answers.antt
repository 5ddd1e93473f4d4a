use Rattle.session.proofs.Readiness.{ready}
use Rattle.survey.proofs.Telling.{rows_tell_acting}
use Rattle.survey.proofs.reaching.pair_of.Goals as goal

pub returns : goal.returns
returns c =
    let s = (ready c.args.model.now).sound in
    let p = c.row_of-first_row.ensures in
    let q = c.row_of-second_row.ensures in
    record {
      first = p;
      second = q;
      compared = c.compare_rows-comparison.ensures _ _ _ s c.requires.first c.requires.second p q;
      acting = λ union n u. rows_tell_acting _ _ _ _ _ union s c.requires.first c.requires.second p q n u;
    }
