use Rattle.std.proofs.Common.{◌++◌, sym, ap, ◌∙◌, arith}
use Rattle.book.specs.Meaning.{lists_of}
use Rattle.image.specs.Encoding.{contents}
use Rattle.image.proofs.Counting.{encode_is, encode_bodies}
use Rattle.image.proofs.writer.put_image.Goals as goal

pub split_at_mut-head-requires : goal.split_at_mut-head-requires
split_at_mut-head-requires c = omega (arith, encode_bodies (lists_of c.args.book.now))

pub put_bodies-requires : goal.put_bodies-requires
put_bodies-requires c = omega (arith, c.split_at_mut-head.ensures.back_len, encode_bodies (lists_of c.args.book.now))

pub returns : goal.returns
returns c =
    let l = lists_of c.args.book.now in
    ap (λ head. head ++ c.put_bodies.new.room) c.put_contents.ensures ∙ ap (λ rest. contents l ++ rest) c.put_bodies.ensures ∙ sym (encode_is l)
