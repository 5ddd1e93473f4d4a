use Rattle.std.proofs.Common.{◌≡◌, ◌-◌, ◌*◌, ◌≤◌, length}
use Rattle.std.specs.Iterator.Adapters.{zip_first, zip_second}
use Rattle.std.specs.Slice.Iter.{chunks_exact_rest, chunks_exact_size}
use Rattle.book.specs.Meaning.{lists_of}
use Rattle.image.specs.Layout.{width_of}
use Rattle.image.specs.Reading.{built_from, built_part, count_at}
use Rattle.image.proofs.bodies.read_body.Given as goal

abbrev pub invariant-loop-k : goal.invariant-loop-k
invariant-loop-k l =
    let left = zip_first l.k-iterator in
    let entries = zip_second l.k-iterator in
    let bytes = l.contents.bytes.now in
    record {
      built : built_from l.list (chunks_exact_rest entries) (lists_of l.book) left.start (count_at bytes l.list - left.start) ≡ built_part bytes l.list (lists_of l.initial.book);
      end : left.end ≡ count_at bytes l.list;
      size : chunks_exact_size entries ≡ width_of l.list;
      room : (count_at bytes l.list - left.start) * width_of l.list ≤ length (chunks_exact_rest entries);
    }
