use Rattle.std.proofs.Common.{◌≡◌, length, Some, ap, ◌∙◌, arith}
use Rattle.catalogue.specs.Counts.{count_of}
use Rattle.image.specs.Bytes.{record_at}
use Rattle.image.specs.Readers.{image_lists}
use Rattle.image.proofs.Looking.{image_sound, record_is}
use Rattle.image.proofs.images.Image.found.Goals as goal

pub returns : goal.returns
returns g c =
    let l = image_lists c.args.self.now in
    let count : c.count.result ≡ length (g.T.Listed.listed l) = c.count.ensures ∙ ap (count_of l) c.list.ensures ∙ g.met.T.Listed.counted l in
    ap Some (c.from_bytes.ensures ∙ ap g.T.Coded.decoded (c.record_at.ensures ∙ ap (λ p. record_at l p c.args.n) c.list-2.ensures ∙ g.met.T.Coded.stands l c.args.n))
    ∙ record_is g.T.Coded.encoded (g.T.Listed.listed l) c.args.n (omega arith) g.T.Coded.decoded (λ x e. g.met.T.Coded.back l c.args.n x (image_sound c.args.self.now) e)
