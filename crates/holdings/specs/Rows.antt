-- Tables of what principals have: a row for each right of each principal.
use Rattle.std.specs.Prelude.{ℕ, ◌+◌, ◌*◌, Bool}
use Rattle.grid.specs.Grids.{noted}
use Rattle.holdings.specs.declared.powers.Powers.{Powers}

-- where the row of right k of principal p is
abbrev pub row_of : ℕ → ℕ → ℕ
row_of p k = p * 7 + k

-- principal p has right k on e, and can grant it
abbrev pub has : Powers → ℕ → ℕ → ℕ → Bool
has t p k e = noted t.holds.rows (row_of p k) e

abbrev pub can : Powers → ℕ → ℕ → ℕ → Bool
can t p k e = noted t.grants.rows (row_of p k) e
