use Rattle.std.proofs.Common.{◌≡◌, ℕ, ◌<◌, true, ◌&&◌, ◌||◌}
use Rattle.access.specs.declared.code.Object.{Object}
use Rattle.access.specs.Bits.{bit}
use Rattle.access.specs.Places.{place_of}
use Rattle.grid.specs.Grids.{noted}
use Rattle.lookup.specs.Tables.{slot_of}
use Rattle.holdings.specs.Giving.{enters_by}
use Rattle.holdings.specs.Rows.{has}
use Rattle.holdings.proofs.enterers.enterers.Given as goal

-- what is noted, and what is left to note
abbrev pub invariant-loop-account : goal.invariant-loop-account
invariant-loop-account l = record {
  small : (v : ℕ) → bit l.account-iterator.0 v ≡ true → v < 128;
  all : (x : Object) (v : ℕ) → place_of x < 96
      → (noted l.enterers.rows (slot_of x) v || (bit l.account-iterator.0 v && enters_by (has l.holds) l.objects.rows v x))
      ≡ (bit l.accounts v && enters_by (has l.holds) l.objects.rows v x);
}
