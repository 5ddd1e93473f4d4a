use Rattle.std.proofs.Common.{arith}
use Rattle.lookup.proofs.Slots.{slot_small}
use Rattle.holdings.proofs.calls.call_to.Goals as goal

pub overflow_cast-result : goal.overflow_cast-result
overflow_cast-result c = omega (arith, slot_small c.args.line.object c.requires.small.0, c.slot.ensures c.requires.small.0)

pub overflow_cast-result-2 : goal.overflow_cast-result-2
overflow_cast-result-2 c = omega (arith, slot_small c.args.called c.requires.small.1, c.slot-2.ensures c.requires.small.1)
