-- What the sets of an extent say.
use Rattle.std.specs.Prelude.{ℕ, ◌+◌, ◌*◌, Bool, ◌||◌}
use Rattle.access.specs.declared.code.Object.{Object}
use Rattle.access.specs.Places.{place_of}
use Rattle.grid.specs.Grids.{noted}
use Rattle.lookup.specs.Tables.{sort_number, slot_of}
use Rattle.holdings.specs.declared.tables.Holdings.{Holdings}
use Rattle.holdings.specs.Rows.{has, can}
use Rattle.extent.specs.declared.extents.Extent.{Extent}

-- account a holds right k on e, and may grant it: by the catalogue, or as everyone does by the session
abbrev pub held : Holdings → Extent → ℕ → ℕ → ℕ → Bool
held h s a k e = has h.of_accounts a k e || noted s.holds.rows k e

abbrev pub may : Holdings → Extent → ℕ → ℕ → ℕ → Bool
may h s a k e = can h.of_accounts a k e || noted s.grants.rows k e

-- account v entered object x, by the table of objects and by that of accounts
abbrev pub entrant : Extent → Object → ℕ → Bool
entrant s x v = noted s.entrants.rows (slot_of x) v

abbrev pub entry : Extent → Object → ℕ → Bool
entry s x v = noted s.entered.rows (v + 96 * sort_number x) (place_of x)
