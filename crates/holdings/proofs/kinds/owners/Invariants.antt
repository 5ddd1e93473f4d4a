use Rattle.std.proofs.Common.{◌≡◌, ℕ, ◌<◌, eqb, take}
use Rattle.std.specs.List.{list_any}
use Rattle.grid.specs.Grids.{noted}
use Rattle.holdings.proofs.kinds.owners.Given as goal

abbrev pub invariant-loop-entity : goal.invariant-loop-entity
invariant-loop-entity l = (o : ℕ) → o < 96 → noted l.owners.rows 0 o ≡ list_any (λ x. eqb o x.owner) (take l.entity-index l.entities)
