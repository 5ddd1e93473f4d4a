use Rattle.std.proofs.Common.{◌<◌, length, sym, ◌∙◌, arith}
use Rattle.book.specs.Meaning.{lists_of}
use Rattle.image.proofs.Looking.{none_past}
use Rattle.image.proofs.writer.put_record.Goals as goal

pub returns-in_default : goal.returns-in_default
returns-in_default g c =
    let l = lists_of c.args.book.now in
    let below : c.args.n < length (g.T.Listed.listed l) = omega (arith, g.met.T.Listed.counted l) in
    absurd (none_past (g.T.Listed.listed l) c.args.n below (sym c.in_default.is ∙ c.at.ensures))
