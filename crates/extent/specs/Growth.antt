-- How an extent grows.
use Rattle.std.specs.Prelude.{◌≡◌, ℕ, ◌≤◌, true}
use Rattle.access.specs.Bits.{bit}
use Rattle.grid.specs.Grids.{noted}
use Rattle.extent.specs.declared.extents.Extent.{Extent}

-- t has all that s has
pub record Larger (s t : Extent) : Type 0 where
  pub opener : t.opener ≡ s.opener
  pub acted : (v : ℕ) → bit s.acted v ≡ true → bit t.acted v ≡ true
  pub joined : (q : ℕ) → bit s.joined q ≡ true → bit t.joined q ≡ true
  pub places : (e : ℕ) → bit s.places e ≡ true → bit t.places e ≡ true
  pub given : (k e : ℕ) → noted s.given.rows k e ≡ true → noted t.given.rows k e ≡ true
  pub holds : (k e : ℕ) → noted s.holds.rows k e ≡ true → noted t.holds.rows k e ≡ true
  pub grants : (k e : ℕ) → noted s.grants.rows k e ≡ true → noted t.grants.rows k e ≡ true
  pub entrants : (z v : ℕ) → noted s.entrants.rows z v ≡ true → noted t.entrants.rows z v ≡ true
  pub entered : (z e : ℕ) → noted s.entered.rows z e ≡ true → noted t.entered.rows z e ≡ true

-- the same, and t is s where it counts no more
pub record Grown (s t : Extent) : Type 0 where
  pub larger : Larger s t
  pub counts : s.count ≤ t.count
  pub quiet : t.count ≡ s.count → t ≡ s
