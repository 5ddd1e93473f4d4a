use Rattle.std.proofs.Common.{◌≡◌, ℕ, true, false}
use Rattle.access.specs.declared.code.Object.{Object}
use Rattle.access.specs.Bits.{bit}
use Rattle.access.specs.Places.{place_of}
use Rattle.grid.proofs.Bitwise.{Left}
use Rattle.session.specs.Models.{lists_of}
use Rattle.extent.specs.Shows.{Came}
use Rattle.extent.specs.Growth.{Grown}
use Rattle.extent.specs.Tests.{entry}
use Rattle.extent.proofs.extents.Extent.take.Given as goal

-- the accounts that are taken are acted as if they entered an object in one of the places; those that are left are not acted as yet
abbrev pub invariant-loop-v : goal.invariant-loop-v
invariant-loop-v l = record {
  came : Came (lists_of l.model) l.self;
  grown : Grown l.initial.self l.self;
  known : (v : ℕ) → bit l.v-iterator.0 v ≡ true → bit l.tables.accounts v ≡ true;
  fresh : (v : ℕ) → bit l.v-iterator.0 v ≡ true → bit l.self.acted v ≡ false;
  done : Left (λ v. bit l.tables.accounts v ≡ true) (λ v. (x : Object) → entry l.initial.self x v ≡ true → bit l.footholds (place_of x) ≡ true → bit l.self.acted v ≡ true) l.v-iterator.0;
}
