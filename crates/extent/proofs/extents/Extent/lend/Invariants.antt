use Rattle.std.proofs.Common.{◌≡◌, ℕ, true}
use Rattle.access.specs.declared.code.Object.{Object}
use Rattle.access.specs.Bits.{bit}
use Rattle.access.specs.Places.{place_of}
use Rattle.grid.proofs.Bitwise.{Left}
use Rattle.runs.specs.Standing.{IsObject}
use Rattle.session.specs.Models.{lists_of}
use Rattle.extent.specs.Shows.{Came}
use Rattle.extent.specs.Growth.{Grown}
use Rattle.extent.specs.Tests.{entry}
use Rattle.extent.proofs.extents.Extent.lend.Given as goal

-- the accounts that are taken entered what is in the places; those that are left are acted as
abbrev pub invariant-loop-u : goal.invariant-loop-u
invariant-loop-u l = record {
  came : Came (lists_of l.model) l.self;
  grown : Grown l.initial.self l.self;
  known : (u : ℕ) → bit l.u-iterator.0 u ≡ true → bit l.initial.self.acted u ≡ true;
  done : Left (λ u. bit l.initial.self.acted u ≡ true)
      (λ u. (y : Object) → IsObject (lists_of l.model) y → bit l.places (place_of y) ≡ true → entry l.self y u ≡ true) l.u-iterator.0;
}
