use Rattle.std.proofs.Common.{ℕ, is_some, ap, ◌∙◌, ⊎_elim, rules}
use Rattle.std.proofs.lemmas.Bool.{both_ways}
use Rattle.std.proofs.lemmas.Bool.Decides.{not_from_Decides}
use Rattle.std.proofs.lemmas.Option.{MatchOption-at_none}
use Rattle.access.specs.Bits.{bit}
use Rattle.access.proofs.SetLaws.{bit_zero}
use Rattle.fitting.proofs.Smalls.{stands_small}
use Rattle.saturation.proofs.lending.lends_to.Goals as goal
use Rattle.saturation.proofs.lending.lends_to.Goals.{else-missing-ne0-via-else-missing-ne0, else-missing-ne0-via-then-missing-ne0+else-is_object, else-missing-ne0-via-then-missing-ne0+then-is_object+in-None-1}

pub returns-else-missing-ne0-clause-lent : goal.returns-else-missing-ne0-clause-lent
returns-else-missing-ne0-clause-lent c n u d h m =
    let g = c.requires.serves.goes in
    let small = stands_small g.ran.sound _ (ap is_some d.owner.second.there) in
    elim c.else-missing-ne0.branch [
      | else-missing-ne0-via-else-missing-ne0 w ↦
          record { is = λ _ _. ⊎_elim (λ t. absurd (both_ways _ (ap (λ (b : ℕ). bit b u) w.if-missing-ne0.false ∙ bit_zero u) t)) (λ n. n) (c.missing.ensures _ u g small h m) }
      | else-missing-ne0-via-then-missing-ne0+else-is_object w ↦ record { is = λ _ o. absurd (not_from_Decides _ w.is_object.ensures w.if-is_object.false (rw (← c.actor.view_is) at o)) }
      | else-missing-ne0-via-then-missing-ne0+then-is_object+in-None-1 w ↦ absurd (MatchOption-at_none {o = w.foothold_for.result} _ _ (search rules) w.foothold_for.ensures n d)
    ]
