use Rattle.std.proofs.Common.{not, ap, ◌∙◌, ⊎_elim}
use Rattle.std.proofs.lemmas.Bool.{both_ways, and_from, cases_Bool}
use Rattle.access.specs.Bits.{bit}
use Rattle.saturation.proofs.Followed.{called_small}
use Rattle.saturation.proofs.Standing.{entered_small}
use Rattle.saturation.proofs.following.waiting_to.Goals as goal

pub returns-in-Caller : goal.returns-in-Caller
returns-in-Caller c L g m e v n f =
    let there = (c.entrants-entrants.ensures _ v (entered_small _ g n) g.ran.marked).1 n in
    rw c.in-Caller.is
    (⊎_elim
    (λ t. (c.entrants.ensures _ v (called_small g m n e) g.ran.marked).0 t)
    (λ t. absurd (both_ways _ f (c.without.ensures v ∙ and_from _ _ there (ap not t))))
    (cases_Bool (bit c.entrants.result v)))

pub returns-else-is_entered : goal.returns-else-is_entered
returns-else-is_entered c L g m e v n f = absurd (both_ways _ f ((c.entrants-entrants.ensures _ v (entered_small _ g n) g.ran.marked).1 n))
