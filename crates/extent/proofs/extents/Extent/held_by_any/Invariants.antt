use Rattle.std.proofs.Common.{◌≡◌, ℕ, true}
use Rattle.access.specs.Bits.{bit}
use Rattle.extent.specs.Tests.{held}
use Rattle.extent.specs.Turns.{Somebody}
use Rattle.grid.proofs.Bitwise.{Left}
use Rattle.extent.proofs.extents.Extent.held_by_any.Given as goal

-- what is there some account acted as holds; each account is left, or what it holds is there
abbrev pub invariant-loop-account : goal.invariant-loop-account
invariant-loop-account l = record {
  only : (e : ℕ) → bit l.all e ≡ true → Somebody l.tables l.self l.k e;
  among : (v : ℕ) → bit l.account-iterator.0 v ≡ true → bit l.self.acted v ≡ true;
  done : Left (λ v. bit l.self.acted v ≡ true) (λ v. (e : ℕ) → held l.tables l.self v l.k e ≡ true → bit l.all e ≡ true) l.account-iterator.0;
}
