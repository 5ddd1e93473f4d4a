use Rattle.std.proofs.Common.{◌≡◌, ◌+◌, ◌*◌, ◌≤◌, length, ap, ◌∙◌, arith, rules}
use Rattle.catalogue.specs.Counts.{count_of}
use Rattle.image.specs.Layout.{width_of}
use Rattle.image.specs.Encoding.{body_of}
use Rattle.image.specs.Readers.{image_lists}
use Rattle.image.proofs.Looking.{record_in, record_inside, record_small, image_few}
use Rattle.image.proofs.Stepping.{record_cut}
use Rattle.image.proofs.images.Image.record_at.Goals as goal

pub overflow_mul-start : goal.overflow_mul-start
overflow_mul-start c =
    let p = c.args.list in
    let e : c.args.n * c.width_of-width.result ≡ c.args.n * width_of p = ap (λ w. c.args.n * w) c.width_of-width.ensures.value in
    omega (arith, record_small p c.args.n (count_of (image_lists c.args.self.now) p) c.requires (image_few c.args.self.now p))

pub overflow_add-result : goal.overflow_add-result
overflow_add-result c =
    let p = c.args.list in
    let e : c.args.n * c.width_of-width.result ≡ c.args.n * width_of p = ap (λ w. c.args.n * w) c.width_of-width.ensures.value in
    omega (arith, c.width_of-width.ensures.value, record_small p c.args.n (count_of (image_lists c.args.self.now) p) c.requires (image_few c.args.self.now p))

pub slice_bounds-result-end : goal.slice_bounds-result-end
slice_bounds-result-end c =
    let p = c.args.list in
    let l = image_lists c.args.self.now in
    let e : c.args.n * c.width_of-width.result ≡ c.args.n * width_of p = ap (λ w. c.args.n * w) c.width_of-width.ensures.value in
    let long = ap length c.body.ensures.content in
    let inside : c.args.n * c.width_of-width.result + c.width_of-width.result ≤ length c.body.result.now = omega (arith, c.width_of-width.ensures.value, record_inside l p c.args.n c.requires) in
    search rules

pub returns : goal.returns
returns c =
    let p = c.args.list in
    let l = image_lists c.args.self.now in
    record_cut p c.args.n c.width_of-width.result c.body.result.now (body_of l p) c.width_of-width.ensures.value c.body.ensures.content
    ∙ record_in l p c.args.n c.requires
