use Rattle.std.proofs.Common.{◌∙◌, ap}
use Rattle.image.specs.Reading.{body_in}
use Rattle.image.proofs.Looking.{image_body}
use Rattle.image.proofs.images.Image.body.Goals as goal

pub returns : goal.returns
returns c =
    let place = c.body.ensures ∙ ap (body_in c.args.list) c.contents.ensures in
    record { place = place; content = place ∙ image_body c.args.self.now c.args.list }
