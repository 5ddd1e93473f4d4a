use Rattle.std.proofs.Common.{refl, arith}
use Rattle.fitting.proofs.Deciding.{not_told}
use Rattle.saturation.proofs.Standing.{entered_small}
use Rattle.saturation.proofs.trying.is_entered.Goals as goal
use Rattle.saturation.proofs.trying.is_entered.Goals.{then-entry-ge96-via-then-entry-ge96, then-entry-ge96-via-else-entry-ge96+then-place-ge96}

pub returns-then-entry-ge96 : goal.returns-then-entry-ge96
returns-then-entry-ge96 c L g =
    elim c.then-entry-ge96.branch [
      | then-entry-ge96-via-then-entry-ge96 w ↦ not_told refl (λ m. absurd (omega (arith, w.if-entry-ge96.true, (entered_small _ g m).1)))
      | then-entry-ge96-via-else-entry-ge96+then-place-ge96 w ↦ not_told refl (λ m. absurd (omega (arith, w.if-place-ge96.true, w.place.ensures, (entered_small _ g m).0)))
    ]
