use Rattle.std.proofs.Common.{refl, arith}
use Rattle.fitting.proofs.Deciding.{not_told}
use Rattle.saturation.proofs.Standing.{acted_small}
use Rattle.saturation.proofs.trying.acts.Goals as goal

pub returns-then-account-ge96 : goal.returns-then-account-ge96
returns-then-account-ge96 c L g = not_told refl (λ m. absurd (omega (arith, c.if-account-ge96.true, acted_small _ g m)))
