use Rattle.std.proofs.Common.{◌≡◌, ℕ, true, ◌⊎◌, sym, ap, ◌∙◌, inl, inr, ⊎_elim}
use Rattle.std.proofs.lemmas.Bool.{both_ways, and_from, cases_Bool, eqb-true}
use Rattle.access.specs.Bits.{bit}
use Rattle.access.proofs.SetLaws.{bit_zero}
use Rattle.grid.specs.Grids.{noted}
use Rattle.extent.proofs.Planted.{left_or_other, no_bit}
use Rattle.extent.proofs.extents.Extent.is_idle.Goals as goal
use Rattle.extent.proofs.extents.Extent.is_idle.Goals.{then-call-eq0, else-call-eq0}

-- who the line runs under is among its workers
among_entrants : (runner entrants workers w v : ℕ) → runner ≡ 0 → workers ≡ entrants → bit entrants v ≡ true
    → ((runner ≡ 0) × (w ≡ v)) ⊎ (bit runner w ≡ true) → bit workers w ≡ true
among_entrants runner entrants workers w v z e t =
    ⊎_elim (λ (n, m). ap (λ k. bit k w) e ∙ ap (bit entrants) m ∙ t) (λ b. absurd (both_ways _ (ap (λ k. bit k w) z ∙ bit_zero w) b))

among_runner : (runner workers w v : ℕ) → (runner ≡ 0 → ⊥) → workers ≡ runner → ((runner ≡ 0) × (w ≡ v)) ⊎ (bit runner w ≡ true) → bit workers w ≡ true
among_runner runner workers w v z e = ⊎_elim (λ (n, m). absurd (z n)) (λ b. ap (λ k. bit k w) e ∙ b)

pub returns-then-entrants-eq0 : goal.returns-then-entrants-eq0
returns-then-entrants-eq0 c _ = record {
  none = λ v w t k. absurd (both_ways _ (ap (λ n. bit n v) c.if-entrants-eq0.true ∙ bit_zero v) (c.row-entrants.ensures v ∙ t));
}

pub returns-then-missing-eq0 : goal.returns-then-missing-eq0
returns-then-missing-eq0 c _ = record {
  none = λ v w t k.
      let call = c.args.call.now in
      let works : bit c.if-call-eq0.workers w ≡ true = elim c.if-call-eq0.branch [
        | then-call-eq0 b ↦ among_entrants call.runner c.row-entrants.result c.if-call-eq0.workers w v b.if-call-eq0.true b.workers-is (c.row-entrants.ensures v ∙ t) k
        | else-call-eq0 b ↦ among_runner call.runner c.if-call-eq0.workers w v b.if-call-eq0.false b.workers-is k
      ] in
      ⊎_elim
      (λ m. absurd (both_ways _ (no_bit _ w c.if-missing-eq0.true) m))
      (λ o. inl (sym (c.row.ensures w) ∙ o))
      (left_or_other _ _ _ c.without-missing.ensures w works);
}

pub returns : goal.returns
returns c r = record {
  none = λ v w t k.
      let call = c.args.call.now in
      let works : bit c.if-call-eq0.workers w ≡ true = elim c.if-call-eq0.branch [
        | then-call-eq0 b ↦ among_entrants call.runner c.row-entrants.result c.if-call-eq0.workers w v b.if-call-eq0.true b.workers-is (c.row-entrants.ensures v ∙ t) k
        | else-call-eq0 b ↦ among_runner call.runner c.if-call-eq0.workers w v b.if-call-eq0.false b.workers-is k
      ] in
      ⊎_elim
      (λ m. inr (
        c.if-call.false,
        sym c.has.ensures ∙ c.if-has.false,
        ⊎_elim
            (λ y. absurd (both_ways _ (no_bit _ w (eqb-true _ _ r)) (c.both.ensures w ∙ and_from _ _ m (c.row-2.ensures w ∙ y))))
            (λ n. n)
            (cases_Bool (noted c.args.tables.now.enterers.rows call.called w)),
      ))
      (λ o. inl (sym (c.row.ensures w) ∙ o))
      (left_or_other _ _ _ c.without-missing.ensures w works);
}
