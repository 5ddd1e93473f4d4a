use Rattle.std.proofs.Common.{◌≡◌, ◌+◌, ◌*◌, ◌≤◌, length, drop, sym, ap, ◌∙◌, zero-mul, subst, arith, rules}
use Rattle.book.specs.Meaning.{lists_of}
use Rattle.catalogue.specs.Counts.{count_of}
use Rattle.image.specs.Layout.{width_of}
use Rattle.image.specs.Bytes.{records_of, strung, record_at, written}
use Rattle.image.specs.Encoding.{body_of}
use Rattle.image.proofs.Writing.{Filled, written_put, filled_none, filled_more, filled_all}
use Rattle.image.proofs.Counting.{records_more, records_all}
use Rattle.image.proofs.Looking.{record_inside, record_long}
use Rattle.image.proofs.Widths.{one_more}
use Rattle.image.proofs.writer.put_records.Goals as goal

pub loop-n-init : goal.loop-n-init
unfolding body_of
loop-n-init g c =
    let whole = body_of (lists_of c.args.book.now) g.T.Listed.named in
    subst (λ at. Filled whole c.args.room.now at whole) (sym (zero-mul (width_of g.T.Listed.named))) (filled_none whole c.args.room.now c.requires)

pub slice_bounds-put_record-end : goal.slice_bounds-put_record-end
slice_bounds-put_record-end g c =
    let l = lists_of c.args.book.now in
    let p = g.T.Listed.named in
    let n = c.loop-n.n in
    let w = c.width_of-width.result in
    let wide : w ≡ width_of p = c.width_of-width.ensures.value ∙ ap width_of c.list-2.ensures in
    let count : c.count-count.result ≡ count_of l p = c.count-count.ensures ∙ ap (count_of l) c.list.ensures in
    let same : n * w + w ≡ n * width_of p + width_of p = ap (λ v. n * v + v) wide in
    let inside : n * w + w ≤ length c.loop-n.room = omega (arith, record_inside l p n (omega arith), c.loop-n.invariant.long) in
    search rules

pub loop-n-preserved : goal.loop-n-preserved
loop-n-preserved g c =
    let l = lists_of c.args.book.now in
    let p = g.T.Listed.named in
    let n = c.loop-n.n in
    let w = c.width_of-width.result in
    let room = c.loop-n.room in
    let a = record_at l p n in
    let wide : w ≡ width_of p = c.width_of-width.ensures.value ∙ ap width_of c.list-2.ensures in
    let count : c.count-count.result ≡ count_of l p = c.count-count.ensures ∙ ap (count_of l) c.list.ensures in
    let long : length a ≡ width_of p = record_long l p n (omega arith) in
    let end : n * w + w ≡ n * w + length a = ap (λ v. n * w + v) (wide ∙ sym long) in
    filled_more (body_of l p) room (n * width_of p) (strung (drop n (records_of l p))) c.loop-n.invariant a (strung (drop (n + 1) (records_of l p))) _ ((n + 1) * width_of p)
    (records_more l p n (omega arith))
    (written_put room (n * w) (n * w + w) a c.put_record.new.room end c.put_record.ensures ∙ ap (λ v. written room (n * v) a) wide)
    (one_more n (width_of p) ∙ ap (λ v. n * width_of p + v) (sym long))

pub returns : goal.returns
returns g c =
    let l = lists_of c.args.book.now in
    let p = g.T.Listed.named in
    let n = c.loop-n.n in
    let count : c.count-count.result ≡ count_of l p = c.count-count.ensures ∙ ap (count_of l) c.list.ensures in
    filled_all (body_of l p) c.loop-n.room (n * width_of p) (strung (drop n (records_of l p))) c.loop-n.invariant (records_all l p n (omega arith))
