use Rattle.std.proofs.Common.{◌≡◌, ℕ, ◌&&◌, ltb}
use Rattle.std.specs.List.{slice_get}
use Rattle.grid.specs.Grids.{noted}
use Rattle.holdings.specs.Giving.{owner_is}
use Rattle.holdings.proofs.kinds.owned.Given as goal

-- the entities before x are done
abbrev pub invariant-loop-x : goal.invariant-loop-x
invariant-loop-x l = (o e : ℕ) → noted l.owned.rows o e ≡ (ltb e l.x && (owner_is o (slice_get l.entities e) && ltb o 96))
