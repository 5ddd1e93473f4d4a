use Rattle.std.proofs.Common.{arith}
use Rattle.std.proofs.lemmas.Result.{err_from_is_err_and}
use Rattle.book.specs.Meaning.{lists_of}
use Rattle.image.proofs.Counting.{book_kept}
use Rattle.image.proofs.ReadBack.{Bytes}
use Rattle.image.proofs.Looking.{read_kept, read_written, image_reads, image_fails}
use Rattle.image.proofs.images.reader.read.Goals as goal

pub returns-in_err-built-clause-image : goal.returns-in_err-built-clause-image
returns-in_err-built-clause-image c =
    let p = err_from_is_err_and c.from_residual.result c.from_residual.ensures.1 in
    rw (p.1, p.2) (image_fails _ c.args.bytes.now c.in_err-built.ensures)

pub invariant_of-result : goal.invariant_of-result
invariant_of-result c =
    let bytes = c.args.bytes.now in
    let small : Bytes bytes = λ i. omega (arith, c.type_inv.bytes i) in
    let l = lists_of c.rebuild-built.new.book in
    let k = book_kept c.rebuild-built.new.book in
    record { kept = ∣ read_kept bytes l k c.in_ok-built.ensures ∣₁; written = read_written bytes l k c.in_ok-built.ensures small }

pub returns-clause-image : goal.returns-clause-image
returns-clause-image c = image_reads _
