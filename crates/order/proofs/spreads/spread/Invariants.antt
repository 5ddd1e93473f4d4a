use Rattle.std.proofs.Common.{◌≡◌, ℕ, ◌<◌, ◌≤◌, false, Decides}
use Rattle.access.specs.Sets.{told}
use Rattle.order.specs.Spreads.{Carried}
use Rattle.order.proofs.spreads.spread.Given as goal

-- the places below x are done, and the others are empty
abbrev pub invariant-loop-x : goal.invariant-loop-x
invariant-loop-x g l =
    ((z k : ℕ) → z < l.x → Decides (told l.row.sets z k) (Carried (g.O.Order.below l.order) (told l.base.sets) 96 z k))
    × ((z k : ℕ) → l.x ≤ z → told l.row.sets z k ≡ false)
