use Rattle.std.proofs.Common.{◌≡◌, true}
use Rattle.access.specs.declared.entities.Kind.TheVariants.{Account}
use Rattle.access.specs.Bits.{bit}
use Rattle.runs.specs.Standing.{Is}
use Rattle.session.specs.Models.{lists_of}
use Rattle.extent.specs.Tests.{held}
use Rattle.extent.specs.Shows.{Came}
use Rattle.extent.specs.Growth.{Grown}
use Rattle.extent.proofs.Filling.{Filling}
use Rattle.extent.proofs.extents.Extent.switch.Given as goal

-- the accounts that are left are those that the account may impersonate and that are not acted as yet
abbrev pub invariant-loop-v : goal.invariant-loop-v
invariant-loop-v l = record {
  came : Came (lists_of l.model) l.self;
  grown : Grown l.initial.self l.self;
  filling : Filling (λ v. Is (lists_of l.model) Account v × (held l.tables l.initial.self l.account 6 v ≡ true)) (bit l.self.acted) l.v-iterator.0;
}
