-- The bits of the bytes of a row, right by right.
use Rattle.std.proofs.Common.{◌≡◌, ℕ, ◌+◌, ◌<◌, ◌&&◌, ◌||◌, eqb, List, length, replicate, slice_index, Decides, sym, ◌∙◌, ⊎_elim, arith}
use Rattle.std.proofs.lemmas.Bool.{and_parts, and_from, eqb-true, eq-eqb, or_cases, or_left, or_right, both_ways, cases_lt}
use Rattle.access.specs.declared.rights.Right.{Right}
use Rattle.access.specs.Bits.{bit}
use Rattle.access.specs.Lists.{Lists}
use Rattle.access.specs.Numbers.{right_number}
use Rattle.order.proofs.RowLaws.{clear_rows}
use Rattle.runs.specs.Runs.{Use}
use Rattle.access.proofs.NumberLaws.{right_numbered, right_small}
use Rattle.survey.specs.Used.{UsedAt, IsRow}

module _ (L : Lists) (a : ℕ) where
  -- the bytes have the rights before k
  abbrev pub Filled : ℕ → List ℕ → Type 0
  Filled k row = (e j : ℕ) → Decides (bit (slice_index row e) j) ((j < k) × UsedAt L a e j)

  pub filled_none : Filled 0 (replicate 96 0)
  filled_none e j = (λ t. absurd (both_ways _ (clear_rows 96 e j) t), λ (l, _). absurd (omega (arith, l)))

  pub filled_more : (k : ℕ) (old new : List ℕ) (uses : ℕ) → k < 7 → ((e j : ℕ) → bit (slice_index new e) j ≡ (bit (slice_index old e) j || (eqb j k && bit uses e)))
      → ((e : ℕ) (r : Right) → right_number r ≡ k → Decides (bit uses e) (Use L a e r)) → Filled k old → Filled (k + 1) new
  filled_more k old new uses small told used f e j = (
    λ t. ⊎_elim
        (λ b. let (l, u) = (f e j).0 b in (omega (arith, l), u))
        (λ b.
        let (i, u) = and_parts _ _ b in
        let (r, n) = right_numbered k small in
        let same : j ≡ k = eqb-true j k i in
        (omega (arith, same), (r, n ∙ sym same, (used e r n).0 u)))
        (or_cases _ _ (sym (told e j) ∙ t)),
    λ (l, (r, n, u)). told e j
        ∙ ⊎_elim
        (λ m. or_left _ _ ((f e j).1 (m, (r, n, u))))
        (λ m.
        let same : j ≡ k = omega (arith, l, m) in
        or_right _ _ (and_from _ _ (eq-eqb j k same) ((used e r (n ∙ same)).1 u)))
        (cases_lt j k),
  )

  pub filled_all : (row : List ℕ) → length row ≡ 96 → Filled 7 row → IsRow L a row
  filled_all row n f = record {
    long = n;
    bits = λ e j l. (λ t. ((f e j).0 t).1, λ (r, m, u). (f e j).1 (let b = right_small r in omega (arith, b, m), (r, m, u)));
  }
