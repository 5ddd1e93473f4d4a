use Rattle.std.proofs.Common.{sym}
use Rattle.catalogue.proofs.Unique.{kept_out}
use Rattle.catalogue.proofs.Judging.{judged_right_lem}
use Rattle.catalogue.proofs.Keeping.{kept_sound}
use Rattle.book.specs.Meaning.{lists_of}
use Rattle.book.proofs.books.Book.grant.Goals as goal

pub judge_right-requires : goal.judge_right-requires
judge_right-requires c = let l = lists_of c.args.self.now in kept_sound l (kept_out l c.args.self.now.kept)

pub put_right-requires : goal.put_right-requires
put_right-requires c =
    judged_right_lem (lists_of c.args.self.now).entities c.args.numbers.principal c.args.numbers.entity c.args.numbers.right c.args.numbers.option c.in_ok-x.x (sym c.in_ok-x.ensures)
