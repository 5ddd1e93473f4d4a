use Rattle.std.proofs.Common.{◌≡◌, true}
use Rattle.grid.specs.Grids.{noted}
use Rattle.session.specs.Models.{lists_of}
use Rattle.extent.specs.Tests.{may}
use Rattle.extent.specs.Shows.{Came}
use Rattle.extent.specs.Growth.{Grown}
use Rattle.extent.proofs.Filling.{Filling}
use Rattle.extent.proofs.extents.Extent.grant.Given as goal

-- the entities that are left are those where the account may grant the right and that everyone is not given yet
abbrev pub invariant-loop-entity : goal.invariant-loop-entity
invariant-loop-entity l = record {
  came : Came (lists_of l.model) l.self;
  grown : Grown l.initial.self l.self;
  filling : Filling (λ e. may l.tables l.initial.self l.account l.k e ≡ true) (noted l.self.given.rows l.k) l.entity-iterator.0;
}
