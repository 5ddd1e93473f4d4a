use Rattle.std.proofs.Common.{◌≡◌, ℕ, ◌<◌, true}
use Rattle.grid.specs.Grids.{noted}
use Rattle.session.specs.Models.{lists_of}
use Rattle.extent.specs.Tests.{may}
use Rattle.extent.specs.Shows.{Came}
use Rattle.extent.specs.Growth.{Grown}
use Rattle.extent.proofs.extents.Extent.grants.Given as goal

-- the rights below k are given
abbrev pub invariant-loop-k : goal.invariant-loop-k
invariant-loop-k l = record {
  came : Came (lists_of l.model) l.self;
  grown : Grown l.initial.self l.self;
  given : (j e : ℕ) → j < l.k → may l.tables l.initial.self l.account j e ≡ true → noted l.self.given.rows j e ≡ true;
}
