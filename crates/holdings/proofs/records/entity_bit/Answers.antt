use Rattle.std.proofs.Common.{arith}
use Rattle.std.proofs.lemmas.Bool.Decides.{nat_tests}
use Rattle.access.proofs.SetLaws.{bit_zero}
use Rattle.holdings.proofs.records.entity_bit.Goals as goal

pub returns-else-entity-lt128 : goal.returns-else-entity-lt128
returns-else-entity-lt128 c e = grind (arith, nat_tests, bit_zero e)
