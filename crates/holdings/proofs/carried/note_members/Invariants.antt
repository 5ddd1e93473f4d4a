use Rattle.std.proofs.Common.{◌≡◌, ℕ, ◌<◌, ◌||◌, take}
use Rattle.std.specs.List.{list_any}
use Rattle.holdings.specs.Giving.{joined_has}
use Rattle.holdings.specs.Rows.{has, can}
use Rattle.holdings.proofs.carried.note_members.Given as goal

abbrev pub invariant-loop-m : goal.invariant-loop-m
invariant-loop-m l = record {
  holds : (p k e : ℕ) → k < 7 → has l.all p k e ≡ (has l.initial.all p k e || list_any (joined_has (has l.roles) p k e) (take l.m-index l.members));
  grants : (p k e : ℕ) → k < 7 → can l.all p k e ≡ (can l.initial.all p k e || list_any (joined_has (can l.roles) p k e) (take l.m-index l.members));
}
