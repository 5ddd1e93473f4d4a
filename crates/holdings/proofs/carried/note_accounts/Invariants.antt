use Rattle.std.proofs.Common.{◌≡◌, ℕ, ◌<◌, true, ◌&&◌, ◌||◌, ltb}
use Rattle.access.specs.Bits.{bit}
use Rattle.access.specs.Lists.{public}
use Rattle.holdings.specs.Rows.{has, can}
use Rattle.holdings.proofs.carried.note_accounts.Given as goal

-- what is given, and what is left to give
abbrev pub invariant-loop-a : goal.invariant-loop-a
invariant-loop-a l = record {
  small : (z : ℕ) → bit l.a-iterator.0 z ≡ true → z < 128;
  holds : (p k e : ℕ) → k < 7 → (has l.all p k e || (bit l.a-iterator.0 p && (ltb p 96 && (has l.own p k e || has l.roles public k e))))
      ≡ (has l.initial.all p k e || (bit l.accounts p && (ltb p 96 && (has l.own p k e || has l.roles public k e))));
  grants : (p k e : ℕ) → k < 7 → (can l.all p k e || (bit l.a-iterator.0 p && (ltb p 96 && (can l.own p k e || can l.roles public k e))))
      ≡ (can l.initial.all p k e || (bit l.accounts p && (ltb p 96 && (can l.own p k e || can l.roles public k e))));
}
