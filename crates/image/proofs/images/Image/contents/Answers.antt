use Rattle.image.proofs.Looking.{image_laid}
use Rattle.image.proofs.images.Image.contents.Goals as goal

pub invariant_of-result : goal.invariant_of-result
invariant_of-result c = record { laid = image_laid c.args.self.now }
