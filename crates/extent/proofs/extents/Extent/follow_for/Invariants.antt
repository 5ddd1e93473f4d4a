use Rattle.std.proofs.Common.{◌≡◌, ℕ, true}
use Rattle.access.specs.Bits.{bit}
use Rattle.grid.proofs.Bitwise.{Left}
use Rattle.session.specs.Models.{lists_of}
use Rattle.extent.specs.Shows.{Came}
use Rattle.extent.specs.Growth.{Grown}
use Rattle.extent.specs.Tests.{entry}
use Rattle.extent.proofs.extents.Extent.follow_for.Given as goal

-- the accounts that are taken entered the object
abbrev pub invariant-loop-worker : goal.invariant-loop-worker
invariant-loop-worker l = record {
  came : Came (lists_of l.model) l.self;
  grown : Grown l.initial.self l.self;
  known : (w : ℕ) → bit l.worker-iterator.0 w ≡ true → bit l.new w ≡ true;
  done : Left (λ w. bit l.new w ≡ true) (λ w. entry l.self l.fn.called w ≡ true) l.worker-iterator.0;
}
