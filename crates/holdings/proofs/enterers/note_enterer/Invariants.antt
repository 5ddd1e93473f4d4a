use Rattle.std.proofs.Common.{◌≡◌, ℕ, ◌<◌, ◌&&◌, ◌||◌, eqb, ltb}
use Rattle.access.specs.declared.code.Object.{Object}
use Rattle.access.specs.Places.{place_of}
use Rattle.grid.specs.Grids.{noted}
use Rattle.lookup.specs.Tables.{slot_of, sort_number}
use Rattle.holdings.specs.Giving.{enters_by}
use Rattle.holdings.specs.Rows.{has}
use Rattle.holdings.proofs.enterers.note_enterer.Given as goal

-- the objects of the sorts so far are noted
abbrev pub invariant-loop-sort : goal.invariant-loop-sort
invariant-loop-sort l =
    (x : Object) (v : ℕ) → place_of x < 96
    → noted l.enterers.rows (slot_of x) v
    ≡ (noted l.initial.enterers.rows (slot_of x) v || (ltb (sort_number x) l.sort && (eqb v l.account && enters_by (has l.holds) l.objects.rows v x)))
