use Rattle.std.proofs.Common.{◌≡◌, true}
use Rattle.access.specs.declared.entities.Kind.TheVariants.{Role}
use Rattle.access.specs.Bits.{bit}
use Rattle.runs.specs.Standing.{Is}
use Rattle.session.specs.Models.{lists_of}
use Rattle.extent.specs.Tests.{held}
use Rattle.extent.specs.Shows.{Came}
use Rattle.extent.specs.Growth.{Grown}
use Rattle.extent.proofs.Filling.{Filling}
use Rattle.extent.proofs.extents.Extent.joins.Given as goal

-- the roles that are left are those that the account may alter and that accounts were not put into yet
abbrev pub invariant-loop-role : goal.invariant-loop-role
invariant-loop-role l = record {
  came : Came (lists_of l.model) l.self;
  grown : Grown l.initial.self l.self;
  filling : Filling (λ q. Is (lists_of l.model) Role q × (held l.tables l.initial.self l.account 4 q ≡ true)) (bit l.self.joined) l.role-iterator.0;
}
