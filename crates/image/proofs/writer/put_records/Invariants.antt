use Rattle.std.proofs.Common.{◌*◌, drop}
use Rattle.book.specs.Meaning.{lists_of}
use Rattle.image.specs.Layout.{width_of}
use Rattle.image.specs.Bytes.{records_of, strung}
use Rattle.image.specs.Encoding.{body_of}
use Rattle.image.proofs.Writing.{Filled}
use Rattle.image.proofs.writer.put_records.Given as goal

abbrev pub invariant-loop-n : goal.invariant-loop-n
invariant-loop-n g l =
    let p = g.T.Listed.named in
    Filled (body_of (lists_of l.book) p) l.room (l.n * width_of p) (strung (drop l.n (records_of (lists_of l.book) p)))
