use Rattle.std.proofs.Common.{◌≡◌, ◌*◌, ap, ◌∙◌, arith}
use Rattle.catalogue.specs.Counts.{count_of}
use Rattle.book.specs.Meaning.{lists_of}
use Rattle.image.specs.Layout.{width_of}
use Rattle.image.proofs.Counting.{book_small}
use Rattle.image.proofs.writer.body_len.Goals as goal

pub overflow_mul-result : goal.overflow_mul-result
overflow_mul-result c =
    let b = c.args.book.now in
    let p = c.args.list in
    let e : c.count.result * c.width_of.result ≡ count_of (lists_of b) p * width_of p =
    ap (λ n. n * c.width_of.result) c.count.ensures ∙ ap (λ w. count_of (lists_of b) p * w) c.width_of.ensures.value in
    omega (arith, book_small b p)

pub returns : goal.returns
returns c =
    let b = c.args.book.now in
    let p = c.args.list in
    let e : c.count.result * c.width_of.result ≡ count_of (lists_of b) p * width_of p =
    ap (λ n. n * c.width_of.result) c.count.ensures ∙ ap (λ w. count_of (lists_of b) p * w) c.width_of.ensures.value in
    record { value = e; bound = omega (arith, book_small b p) }
