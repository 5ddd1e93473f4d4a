use Rattle.std.proofs.lemmas.Nat.{or_lt}
use Rattle.access.proofs.BitLaws.{bit_or_lem}
use Rattle.access.proofs.sets.RightSet.union.Goals as goal

pub invariant_of-result : goal.invariant_of-result
invariant_of-result c = record { small = or_lt 7 _ _ c.args.self.small c.args.other.small }

pub returns : goal.returns
returns c = bit_or_lem c.args.self.bits c.args.other.bits
