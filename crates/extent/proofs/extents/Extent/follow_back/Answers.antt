use Rattle.extent.proofs.Growing.{grown_same, grown_trans}
use Rattle.extent.proofs.extents.Extent.follow_back.Goals as goal

pub loop-i-init : goal.loop-i-init
loop-i-init c = record { came = c.requires.came; grown = grown_same _ }

pub loop-i-preserved : goal.loop-i-preserved
loop-i-preserved c = record { came = c.follow_at.ensures.came; grown = grown_trans c.loop-i.invariant.grown c.follow_at.ensures.grown }
