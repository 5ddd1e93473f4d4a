use Rattle.std.proofs.Common.{rules}
use Rattle.fitting.proofs.Finding.{at_in}
use Rattle.saturation.proofs.Standing.{entered_small}
use Rattle.saturation.proofs.Staying.{in_all}
use Rattle.fitting.proofs.Taking.{taken_more}
use Rattle.saturation.proofs.footholds.entry_at.Goals as goal

pub loop-object-init : goal.loop-object-init
loop-object-init c L g x m = elim m [ ]

pub loop-object-preserved : goal.loop-object-preserved
loop-object-preserved c L g = taken_more _ _ _ _ (search rules) (c.loop-object.invariant L g) (c.in_default.ensures L g)

pub returns : goal.returns
returns c L g n m e = c.loop-object.invariant L g n.object (in_all _ _ (search rules) (c.objects_at-object-items.ensures.all _ e)) n.account (entered_small n g m).1 m

pub returns-in-Some : goal.returns-in-Some
returns-in-Some c L g = (c.in-Some.ensures L g, c.objects_at-object-items.ensures.only _ (at_in _ _ _ (search rules)))
