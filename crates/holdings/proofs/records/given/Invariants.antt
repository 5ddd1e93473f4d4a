use Rattle.std.proofs.Common.{◌≡◌, ℕ, ◌<◌, take}
use Rattle.std.specs.List.{list_any}
use Rattle.grid.specs.Grids.{noted}
use Rattle.holdings.specs.Giving.{opens_one}
use Rattle.holdings.proofs.records.given.Given as goal

abbrev pub invariant-loop-g : goal.invariant-loop-g
invariant-loop-g l = (k e : ℕ) → k < 7 → noted l.given.rows k e ≡ list_any (opens_one e k) (take l.g-index l.records)
