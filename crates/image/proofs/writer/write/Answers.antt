use Rattle.std.proofs.Common.{◌≡◌, ◌-◌, ◌≤◌, ◌++◌, length, drop, Ok, ap, ◌∙◌, arith}
use Rattle.std.proofs.lemmas.Bool.{cond_above}
use Rattle.book.specs.Meaning.{lists_of}
use Rattle.image.specs.Encoding.{encode}
use Rattle.image.proofs.Counting.{book_kept}
use Rattle.image.proofs.WriteRead.{write_reads}
use Rattle.image.proofs.writer.write.Goals as goal

pub returns-then-room-n-clause-reads : goal.returns-then-room-n-clause-reads
returns-then-room-n-clause-reads c = write_reads (lists_of c.args.book.now) (book_kept c.args.book.now)

pub returns : goal.returns
returns c =
    let b = c.args.book.now in
    let l = lists_of b in
    let room = c.args.room.now in
    let n = c.image_len-n.result in
    let enough : length (encode l) ≤ length room = omega (arith, c.image_len-n.ensures) in
    let m : n - 0 ≡ length (encode l) = omega (arith, c.image_len-n.ensures) in
    record {
      answer = cond_above _ _ _ _ _ enough (ap Ok c.image_len-n.ensures);
      room = cond_above _ _ _ _ _ enough (ap (λ head. head ++ drop (n - 0) room) c.put_image.ensures ∙ ap (λ k. encode l ++ drop k room) m);
      reads = write_reads l (book_kept b);
    }
