use Rattle.std.proofs.Common.{◌≡◌, ℕ, ◌<◌, ◌||◌}
use Rattle.holdings.specs.Giving.{any_below, owns_over}
use Rattle.holdings.specs.Rows.{has, can}
use Rattle.holdings.proofs.records.note_owners.Given as goal

-- the entities before x are done
abbrev pub invariant-loop-x : goal.invariant-loop-x
invariant-loop-x l = record {
  holds : (p k e : ℕ) → k < 7 → has l.own p k e ≡ (has l.initial.own p k e || any_below (owns_over l.entities l.within.rows p e) l.x);
  grants : (p k e : ℕ) → k < 7 → can l.own p k e ≡ (can l.initial.own p k e || any_below (owns_over l.entities l.within.rows p e) l.x);
}
