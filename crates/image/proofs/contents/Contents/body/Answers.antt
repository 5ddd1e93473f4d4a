use Rattle.catalogue.specs.declared.names.ListName.TheVariants.{Entities}
use Rattle.image.proofs.contents.Contents.body.Goals as goal

pub entry_at-start-requires : goal.entry_at-start-requires
entry_at-start-requires c = (c.args.self.now.laid Entities).head
