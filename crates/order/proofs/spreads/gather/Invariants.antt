use Rattle.access.specs.Bits.{bit}
use Rattle.access.specs.Sets.{told}
use Rattle.order.proofs.SpreadLaws.{Gathered}
use Rattle.order.proofs.spreads.gather.Given as goal

abbrev pub invariant-loop-y : goal.invariant-loop-y
invariant-loop-y g l = Gathered (g.O.Order.below l.order) (told l.base.sets) 96 l.x (bit l.all.bits) l.y-iterator.0
