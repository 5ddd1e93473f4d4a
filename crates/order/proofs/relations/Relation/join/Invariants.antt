use Rattle.std.proofs.Common.{◌≡◌, ℕ, ◌&&◌, ◌||◌, ltb}
use Rattle.access.specs.Bits.{bit}
use Rattle.order.specs.Rows.{leq}
use Rattle.order.proofs.relations.Relation.join.Given as goal

-- the rows before this one are done
abbrev pub invariant-loop-row : goal.invariant-loop-row
invariant-loop-row l =
    (k y : ℕ) → leq l.row-items k y ≡ (leq l.fn.self.rows k y || (ltb k l.row-index && (leq l.fn.self.rows k l.lower && bit l.more y)))
