use Rattle.std.proofs.Common.{◌≡◌, ℕ, ◌<◌, true, ◌&&◌, ◌||◌, eqb}
use Rattle.access.specs.declared.code.Object.{Object}
use Rattle.access.specs.Bits.{bit}
use Rattle.access.specs.Places.{place_of}
use Rattle.grid.specs.Grids.{noted}
use Rattle.lookup.specs.Tables.{slot_of, sort_number}
use Rattle.holdings.proofs.enterers.note_places.Given as goal

-- what is noted, and what is left to note
abbrev pub invariant-loop-place : goal.invariant-loop-place
invariant-loop-place l = record {
  small : (e : ℕ) → bit l.place-iterator.0 e ≡ true → e < 96;
  all : (x : Object) (v : ℕ) → place_of x < 96
      → (noted l.enterers.rows (slot_of x) v || (bit l.place-iterator.0 (place_of x) && (eqb (sort_number x) l.sort && eqb v l.account)))
      ≡ (noted l.initial.enterers.rows (slot_of x) v || (bit l.places (place_of x) && (eqb (sort_number x) l.sort && eqb v l.account)));
}
