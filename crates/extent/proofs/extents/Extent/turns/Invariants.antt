use Rattle.std.proofs.Common.{◌≡◌, ℕ, true}
use Rattle.access.specs.declared.entities.Kind.TheVariants.{Account}
use Rattle.access.specs.Bits.{bit}
use Rattle.session.specs.Models.{lists_of}
use Rattle.runs.specs.Standing.{Is}
use Rattle.grid.proofs.Bitwise.{Left}
use Rattle.extent.specs.Shows.{Came}
use Rattle.extent.specs.Growth.{Grown}
use Rattle.extent.specs.Turns.{Begun}
use Rattle.extent.proofs.extents.Extent.turns.Given as goal

-- each account that was acted as is left, or has had its turn
abbrev pub invariant-loop-account : goal.invariant-loop-account
invariant-loop-account l = let L = lists_of l.model in record {
  came : Came L l.self;
  grown : Grown l.initial.self l.self;
  among : (a : ℕ) → bit l.account-iterator.0 a ≡ true → Is L Account a;
  done : Left (λ a. Is L Account a × (bit l.initial.self.acted a ≡ true)) (λ a. Begun L l.tables a l.initial.self l.self) l.account-iterator.0;
}
