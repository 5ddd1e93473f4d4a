use Rattle.std.proofs.Common.{◌+◌, sym, ap, ◌∙◌, arith}
use Rattle.book.specs.Meaning.{lists_of}
use Rattle.catalogue.specs.declared.names.ListName.TheVariants.{Entities, Links, Rights, Members, Lines}
use Rattle.image.proofs.Counting.{book_small, encode_sum}
use Rattle.image.proofs.writer.image_len.Goals as goal

pub overflow_add-result : goal.overflow_add-result
overflow_add-result c =
    let b = c.args.book.now in
    omega (arith, c.bodies_len.ensures, book_small b Entities, book_small b Links, book_small b Rights, book_small b Members, book_small b Lines)

pub returns : goal.returns
returns c = ap (λ n. 20 + n) c.bodies_len.ensures ∙ sym (encode_sum (lists_of c.args.book.now))
