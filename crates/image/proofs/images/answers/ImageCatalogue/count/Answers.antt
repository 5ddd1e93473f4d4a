use Rattle.std.proofs.Common.{◌∙◌, ap}
use Rattle.image.specs.Reading.{count_at}
use Rattle.image.proofs.Looking.{image_count}
use Rattle.image.proofs.images.answers.ImageCatalogue.count.Goals as goal

pub returns : goal.returns
returns c = c.count.ensures ∙ ap (λ b. count_at b c.args.list) c.contents.ensures ∙ image_count c.args.self.now c.args.list
