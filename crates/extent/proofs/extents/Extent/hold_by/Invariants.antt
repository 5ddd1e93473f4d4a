use Rattle.std.proofs.Common.{◌≡◌, ℕ, ◌&&◌, ◌||◌, ltb}
use Rattle.grid.specs.Grids.{noted}
use Rattle.holdings.specs.Rows.{has, can}
use Rattle.extent.proofs.extents.Extent.hold_by.Given as goal

-- the rights before this one are added
abbrev pub invariant-loop-k : goal.invariant-loop-k
invariant-loop-k l = record {
  holds : (k e : ℕ) → noted l.self.holds.rows k e ≡ (noted l.initial.self.holds.rows k e || (ltb k l.k && has l.tables.of_roles l.role k e));
  grants : (k e : ℕ) → noted l.self.grants.rows k e ≡ (noted l.initial.self.grants.rows k e || (ltb k l.k && can l.tables.of_roles l.role k e));
  opener : l.self.opener ≡ l.initial.self.opener;
  acted : l.self.acted ≡ l.initial.self.acted;
  joined : l.self.joined ≡ l.initial.self.joined;
  places : l.self.places ≡ l.initial.self.places;
  given : l.self.given ≡ l.initial.self.given;
  entrants : l.self.entrants ≡ l.initial.self.entrants;
  entered : l.self.entered ≡ l.initial.self.entered;
  count : l.self.count ≡ l.initial.self.count;
}
