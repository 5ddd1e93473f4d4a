use Rattle.std.proofs.Common.{◌≡◌, ℕ, ◌<◌, ◌&&◌, ◌||◌, ltb}
use Rattle.access.specs.Bits.{bit}
use Rattle.holdings.specs.Giving.{same_one}
use Rattle.holdings.specs.Rows.{has, can}
use Rattle.holdings.proofs.powers.Powers.give_all.Given as goal

-- the rights before k are given
abbrev pub invariant-loop-k : goal.invariant-loop-k
invariant-loop-k l = record {
  holds : (p j e : ℕ) → j < 7 → has l.self p j e ≡ (has l.initial.self p j e || (same_one p l.principal && (ltb j l.k && bit l.on e)));
  grants : (p j e : ℕ) → j < 7 → can l.self p j e ≡ (can l.initial.self p j e || (same_one p l.principal && (ltb j l.k && bit l.on e)));
}
