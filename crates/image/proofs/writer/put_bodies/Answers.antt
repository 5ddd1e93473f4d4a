use Rattle.std.proofs.Common.{◌≡◌, ◌+◌, length, get_or, drop, ap, ◌∙◌, arith}
use Rattle.std.specs.List.{flat_map}
use Rattle.std.proofs.lemmas.List.{length-append}
use Rattle.book.specs.Meaning.{lists_of}
use Rattle.catalogue.specs.declared.names.ListName.TheVariants.{Entities}
use Rattle.image.specs.Layout.{in_order}
use Rattle.image.specs.Encoding.{body_of, bodies}
use Rattle.image.proofs.Writing.{written_put, part_long, filled_none, filled_more}
use Rattle.image.proofs.Counting.{body_length, bodies_more}
use Rattle.image.proofs.writer.put_bodies.Goals as goal

pub loop-list-init : goal.loop-list-init
unfolding bodies
loop-list-init c = filled_none (bodies (lists_of c.args.book.now)) c.args.room.now c.requires

pub slice_bounds-put_body-end : goal.slice_bounds-put_body-end
slice_bounds-put_body-end c =
    let l = lists_of c.args.book.now in
    let i = c.loop-list.list-index in
    let p = get_or in_order i Entities in
    let more = ap length (bodies_more l in_order i Entities (omega arith)) ∙ length-append (body_of l p) (flat_map (body_of l) (drop (i + 1) in_order)) in
    omega (arith, c.loop-list.invariant.end, c.loop-list.invariant.long, body_length l p, c.body_len.ensures.value)

pub put_body-requires : goal.put_body-requires
put_body-requires c =
    let l = lists_of c.args.book.now in
    let i = c.loop-list.list-index in
    let p = get_or in_order i Entities in
    let more = ap length (bodies_more l in_order i Entities (omega arith)) ∙ length-append (body_of l p) (flat_map (body_of l) (drop (i + 1) in_order)) in
    let end : c.loop-list.start + c.body_len.result ≡ c.loop-list.start + length (body_of l p) = omega (arith, body_length l p, c.body_len.ensures.value) in
    part_long c.loop-list.room c.loop-list.start (c.loop-list.start + c.body_len.result) (length (body_of l p)) end
    (omega (arith, c.loop-list.invariant.end, c.loop-list.invariant.long))

pub loop-list-preserved : goal.loop-list-preserved
loop-list-preserved c =
    let l = lists_of c.args.book.now in
    let i = c.loop-list.list-index in
    let p = get_or in_order i Entities in
    let start = c.loop-list.start in
    let room = c.loop-list.room in
    filled_more (bodies l) room start (flat_map (body_of l) (drop i in_order)) c.loop-list.invariant (body_of l p) (flat_map (body_of l) (drop (i + 1) in_order)) _ (start + c.body_len.result)
    (bodies_more l in_order i Entities (omega arith))
    (written_put room start (start + c.body_len.result) (body_of l p) c.put_body.new.room (omega (arith, body_length l p, c.body_len.ensures.value)) c.put_body.ensures)
    (omega (arith, body_length l p, c.body_len.ensures.value))
