use Rattle.std.proofs.Common.{◌≡◌, ℕ, ◌<◌, true, ◌&&◌, ◌||◌, ltb}
use Rattle.access.specs.Bits.{bit}
use Rattle.holdings.specs.Rows.{has, can}
use Rattle.holdings.proofs.carried.lend.Given as goal

-- what is given, and what is left to give
abbrev pub invariant-loop-p : goal.invariant-loop-p
invariant-loop-p l = record {
  small : (z : ℕ) → bit l.p-iterator.0 z ≡ true → z < 128;
  holds : (p k e : ℕ) → k < 7 → (has l.all p k e || (bit l.p-iterator.0 p && (ltb p 96 && has l.own l.x k e)))
      ≡ (has l.initial.all p k e || (bit l.to p && (ltb p 96 && has l.own l.x k e)));
  grants : (p k e : ℕ) → k < 7 → (can l.all p k e || (bit l.p-iterator.0 p && (ltb p 96 && can l.own l.x k e)))
      ≡ (can l.initial.all p k e || (bit l.to p && (ltb p 96 && can l.own l.x k e)));
}
