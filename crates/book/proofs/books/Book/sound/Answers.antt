use Rattle.catalogue.proofs.Unique.{kept_out}
use Rattle.catalogue.proofs.Keeping.{kept_sound, kept_order}
use Rattle.book.specs.Meaning.{lists_of}
use Rattle.book.proofs.books.Book.sound.Goals as goal

pub returns : goal.returns
returns c =
    let l = lists_of c.args.self.now in
    let k = kept_out l c.args.self.now.kept in
    record { sound = kept_sound l k; order = kept_order l k }
