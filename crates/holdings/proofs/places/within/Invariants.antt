use Rattle.std.proofs.Common.{ℕ, ◌<◌, Decides}
use Rattle.access.specs.Orders.{Within}
use Rattle.grid.specs.Grids.{noted}
use Rattle.session.specs.Models.{lists_of}
use Rattle.holdings.proofs.places.within.Given as goal

-- the entities before x are noted
abbrev pub invariant-loop-x : goal.invariant-loop-x
invariant-loop-x l = (d e : ℕ) → Decides (noted l.within.rows d e) ((e < l.x) × Within (lists_of l.model).entities e d)
