use Rattle.std.proofs.Common.{◌≡◌, ℕ, true}
use Rattle.access.specs.Bits.{bit}
use Rattle.grid.proofs.Bitwise.{Left}
use Rattle.session.specs.Models.{lists_of}
use Rattle.extent.proofs.Planted.{PeerOf, Shared}
use Rattle.extent.proofs.planting.peers.Given as goal

-- what the owners that are taken own, if it has one of the set
abbrev pub invariant-loop-owner : goal.invariant-loop-owner
invariant-loop-owner l = record {
  peers : (d : ℕ) → bit l.all d ≡ true → PeerOf (lists_of l.model) l.entities d;
  shared : Left (λ o. bit l.tables.owners o ≡ true) (Shared (lists_of l.model) l.entities l.all) l.owner-iterator.0;
}
