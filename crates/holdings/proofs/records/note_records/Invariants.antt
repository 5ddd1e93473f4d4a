use Rattle.std.proofs.Common.{◌≡◌, ℕ, ◌<◌, ◌||◌, take}
use Rattle.std.specs.List.{list_any}
use Rattle.holdings.specs.Giving.{has_by, can_by}
use Rattle.holdings.specs.Rows.{has, can}
use Rattle.holdings.proofs.records.note_records.Given as goal

abbrev pub invariant-loop-g : goal.invariant-loop-g
invariant-loop-g l = record {
  holds : (p k e : ℕ) → k < 7 → has l.own p k e ≡ (has l.initial.own p k e || list_any (has_by l.within.rows p k e) (take l.g-index l.records));
  grants : (p k e : ℕ) → k < 7 → can l.own p k e ≡ (can l.initial.own p k e || list_any (can_by p k e) (take l.g-index l.records));
}
