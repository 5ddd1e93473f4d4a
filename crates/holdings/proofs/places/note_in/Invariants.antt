use Rattle.std.proofs.Common.{◌≡◌, ℕ, ◌&&◌, ◌||◌, eqb, ltb}
use Rattle.access.specs.Bits.{bit}
use Rattle.grid.specs.Grids.{noted}
use Rattle.holdings.proofs.places.note_in.Given as goal

-- what is noted, and what is left to note
abbrev pub invariant-loop-d : goal.invariant-loop-d
invariant-loop-d l =
    (d e : ℕ) → (noted l.within.rows d e || (bit l.d-iterator.0 d && (ltb d 96 && eqb e l.x)))
    ≡ (noted l.initial.within.rows d e || (bit l.above d && (ltb d 96 && eqb e l.x)))
