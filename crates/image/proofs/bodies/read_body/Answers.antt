use Rattle.std.proofs.Common.{◌≡◌, ◌+◌, ◌-◌, ◌*◌, ◌<◌, length, take, drop, sym, ap, ◌∙◌, arith}
use Rattle.std.specs.Iterator.Adapters.{zip_first, zip_second}
use Rattle.std.specs.Slice.Iter.{chunks_exact_rest, chunks_exact_size}
use Rattle.std.proofs.lemmas.List.{length-append, take_at, drop_at, length-drop}
use Rattle.std.proofs.lemmas.Result.{err_from_is_err_and}
use Rattle.access.specs.Codes.{coded}
use Rattle.book.specs.Gathered.{called}
use Rattle.book.specs.Meaning.{lists_of}
use Rattle.image.specs.Layout.{width_of, least_of}
use Rattle.image.specs.Reading.{call_of, first_call, new_or, built_from, count_at, body_in}
use Rattle.image.proofs.Counting.{most_small}
use Rattle.image.proofs.Stepping.{built_on, built_off}
use Rattle.image.proofs.bodies.read_body.Goals as goal
use Rattle.image.proofs.Entries.{body_long}
use Rattle.image.proofs.ReadBack.{less_wide}
use Rattle.image.proofs.Widths.{left_one}

pub loop-k-init : goal.loop-k-init
loop-k-init c =
    let p = c.args.list in
    let bytes = c.args.contents.now.bytes.now in
    let count = count_at bytes p in
    let l = lists_of c.args.book.now in
    let it = c.into_iter-k-iterator.result in
    let body = c.body.result.now in
    let skipped = least_of p * width_of p in
    let first = ap zip_first c.into_iter-k-iterator.ensures.into_iter_gives ∙ c.zip-k-items.ensures.first in
    let second = ap zip_second c.into_iter-k-iterator.ensures.into_iter_gives ∙ c.zip-k-items.ensures.second in
    let start : (zip_first it).start ≡ least_of p = ap (λ r. r.start) first ∙ c.least_of-least.ensures.value in
    let whole : chunks_exact_rest (zip_second it) ≡ drop skipped (body_in p bytes) =
    ap chunks_exact_rest second ∙ c.chunks_exact.ensures.rest ∙ c.split_at.ensures.back
    ∙ ap (λ n. drop (n * c.width_of-width.result) body) c.least_of-least.ensures.value
    ∙ ap (λ v. drop (least_of p * v) body) c.width_of-width.ensures.value
    ∙ ap (drop skipped) c.body.ensures in
    let long = ap length whole ∙ length-drop skipped (body_in p bytes) in
    let left : (count - (zip_first it).start) * width_of p ≡ (count - least_of p) * width_of p = ap (λ s. (count - s) * width_of p) start in
    let laid = c.args.contents.now.laid p in
    record {
      built = ap (λ b. built_from p b l (zip_first it).start (count - (zip_first it).start)) whole ∙ ap (λ s. built_from p (drop skipped (body_in p bytes)) l s (count - s)) start;
      end = ap (λ r. r.end) first ∙ c.count.ensures;
      size = ap chunks_exact_size second ∙ c.chunks_exact.ensures.size ∙ c.width_of-width.ensures.value;
      room = omega (arith, body_long bytes p laid, less_wide p count laid.least);
    }

pub check_new-requires : goal.check_new-requires
check_new-requires c =
    let step = c.in-Some.ensures.steps in
    omega (arith, step.0.1.0, step.0.1.1, c.loop-k.invariant.end, (c.args.contents.now.laid c.args.list).most, most_small c.args.list)

pub loop-k-preserved : goal.loop-k-preserved
loop-k-preserved c =
    let step = c.in-Some.ensures.steps in
    let list = c.args.list in
    let w = width_of list in
    let count = count_at c.args.contents.now.bytes.now list in
    let l = lists_of c.loop-k.book in
    let k = (zip_first c.loop-k.k-iterator).start in
    let rest = chunks_exact_rest (zip_second c.loop-k.k-iterator) in
    let after = chunks_exact_rest (zip_second c.next.new.self) in
    let entry = c.in-Some.entry.now in
    let below : k < count = omega (arith, step.0.1.0, c.loop-k.invariant.end) in
    let long : length entry ≡ w = step.1.1.1 ∙ c.loop-k.invariant.size in
    let here : take w rest ≡ entry = ap (take w) step.1.1.0 ∙ take_at entry after w long in
    let behind : drop w rest ≡ after = ap (drop w) step.1.1.0 ∙ drop_at entry after w long in
    let call = c.call_of.ensures ∙ ap (call_of list) (sym here) in
    let came : coded c.apply.result ≡ (first_call list rest l).answer = c.apply.ensures.answer ∙ ap (λ a. (called l a).answer) call in
    let lists : lists_of c.apply.new.book ≡ (first_call list rest l).lists = c.apply.ensures.lists ∙ ap (λ a. (called l a).lists) call in
    let split = ap length step.1.1.0 ∙ length-append entry after in
    let less : (count - (zip_first c.next.new.self).start) * w ≡ (count - (k + 1)) * w = ap (λ j. (count - j) * w) step.0.1.2 in
    record {
      built = ap (λ j. built_from list after (lists_of c.apply.new.book) j (count - j)) step.0.1.2
          ∙ built_on list rest l k count (coded c.apply.result) below came after (lists_of c.apply.new.book) _ (sym behind) lists (c.in_ok-check_new.ensures ∙ ap (new_or (coded c.apply.result) list) step.0.1.1)
          ∙ c.loop-k.invariant.built;
      end = step.0.0 ∙ c.loop-k.invariant.end;
      size = step.1.0 ∙ c.loop-k.invariant.size;
      room = omega (arith, left_one k count w below, c.loop-k.invariant.room);
    }

pub returns-in_err-check_new : goal.returns-in_err-check_new
returns-in_err-check_new c =
    let p = err_from_is_err_and c.from_residual.result c.from_residual.ensures.1 in
    let step = c.in-Some.ensures.steps in
    let list = c.args.list in
    let w = width_of list in
    let count = count_at c.args.contents.now.bytes.now list in
    let l = lists_of c.loop-k.book in
    let k = (zip_first c.loop-k.k-iterator).start in
    let rest = chunks_exact_rest (zip_second c.loop-k.k-iterator) in
    let after = chunks_exact_rest (zip_second c.next.new.self) in
    let entry = c.in-Some.entry.now in
    let here : take w rest ≡ entry = ap (take w) step.1.1.0 ∙ take_at entry after w (step.1.1.1 ∙ c.loop-k.invariant.size) in
    let call = c.call_of.ensures ∙ ap (call_of list) (sym here) in
    let came : coded c.apply.result ≡ (first_call list rest l).answer = c.apply.ensures.answer ∙ ap (λ a. (called l a).answer) call in
    rw (p.1, p.2) (built_off list rest l k count (coded c.apply.result) (omega (arith, step.0.1.0, c.loop-k.invariant.end)) came _ (c.in_err-check_new.ensures ∙ ap (new_or (coded c.apply.result) list) step.0.1.1) ∙ c.loop-k.invariant.built)
