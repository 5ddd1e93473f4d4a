use Rattle.catalogue.specs.declared.names.ListName.TheVariants.{Entities}
use Rattle.image.proofs.contents.Contents.count.Goals as goal

pub entry_at-requires : goal.entry_at-requires
entry_at-requires c = (c.args.self.now.laid Entities).head
