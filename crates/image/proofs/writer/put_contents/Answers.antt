use Rattle.std.proofs.Common.{◌+◌, ◌*◌, get_or, drop, sym, refl, ap, ◌∙◌, arith}
use Rattle.book.specs.Meaning.{lists_of}
use Rattle.catalogue.specs.declared.names.ListName.TheVariants.{Entities}
use Rattle.catalogue.specs.Counts.{count_of}
use Rattle.image.specs.Layout.{in_order}
use Rattle.image.specs.Encoding.{entry_bytes, entries_from, contents}
use Rattle.image.proofs.Writing.{written_put, filled_none, filled_more}
use Rattle.image.proofs.Counting.{book_few, entries_more, contents_length}
use Rattle.image.proofs.writer.put_contents.Goals as goal

pub loop-i-init : goal.loop-i-init
unfolding contents
loop-i-init c = (filled_none (contents (lists_of c.args.book.now)) c.args.room.now (c.requires ∙ sym (contents_length (lists_of c.args.book.now))), omega arith)

pub put_entry-requires-clause-small : goal.put_entry-requires-clause-small
put_entry-requires-clause-small c = (omega (arith, c.loop-i.invariant.1), omega (arith, c.count.ensures, book_few c.args.book.now (get_or in_order c.loop-i.i Entities)))

pub loop-i-preserved : goal.loop-i-preserved
loop-i-preserved c =
    let l = lists_of c.args.book.now in
    let i = c.loop-i.i in
    let start = c.loop-i.start in
    let n = count_of l (get_or in_order i Entities) in
    let room = c.loop-i.room in (
      filled_more (contents l) room (i * 4) (entries_from l start (drop i in_order)) c.loop-i.invariant.0 (entry_bytes start n) (entries_from l (start + c.body_len-start.result) (drop (i + 1) in_order)) _ ((i + 1) * 4)
          (entries_more l in_order i Entities (omega arith) start c.body_len-start.result c.body_len-start.ensures.value)
          (written_put room (i * 4) (i * 4 + 4) (entry_bytes start n) c.put_entry.new.room refl (c.put_entry.ensures ∙ ap (entry_bytes start) c.count.ensures)) (omega arith),
      omega (arith, c.body_len-start.ensures.bound, c.loop-i.invariant.1),
    )
