use Rattle.std.proofs.Common.{sym}
use Rattle.image.proofs.Entries.{contents_good, laid}
use Rattle.image.proofs.contents.Contents.read.Goals as goal

pub invariant_of-result : goal.invariant_of-result
invariant_of-result c = record { laid = laid c.args.bytes.now (contents_good c.args.bytes.now _ (sym c.in_ok-contents_end.ensures)) }
