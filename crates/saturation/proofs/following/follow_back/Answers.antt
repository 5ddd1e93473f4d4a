use Rattle.std.proofs.Common.{arith}
use Rattle.fitting.proofs.Finding.{at_in}
use Rattle.saturation.proofs.Going.{grown_same, grown_trans}
use Rattle.saturation.proofs.following.follow_back.Goals as goal

pub loop-i-init : goal.loop-i-init
loop-i-init c = record { grown = grown_same c.requires.goes; keeps = c.requires.keeps }

pub loop-i-preserved : goal.loop-i-preserved
loop-i-preserved c = record { grown = grown_trans c.loop-i.invariant.grown c.follow_line.ensures.grown; keeps = c.follow_line.ensures.keeps }

pub follow_line-requires-clause-listed : goal.follow_line-requires-clause-listed
follow_line-requires-clause-listed c = rw (← c.lines-lines.ensures) (at_in _ _ _ (omega (arith, c.loop-i-test.true)))
