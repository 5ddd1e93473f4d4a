use Rattle.std.proofs.Common.{◌∙◌, inl, inr, ⊎_elim}
use Rattle.std.proofs.lemmas.Bool.{cases_Bool, and_from, not_from_false}
use Rattle.saturation.proofs.lending.missing.Goals as goal

pub returns : goal.returns
returns c L v g h l m =
    ⊎_elim (λ t. inr ((c.entrants.ensures _ v (h, l) g.ran.marked).0 t))
    (λ f. inl (c.without.ensures v ∙ and_from _ _ ((c.actors.ensures _ v l g.ran.marked).1 m) (not_from_false _ f)))
    (cases_Bool _)
