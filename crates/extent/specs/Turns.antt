-- What the turn of an account, and lines that are followed, add to an extent.
use Rattle.std.specs.Prelude.{◌≡◌, ℕ, ◌<◌, true, false, ◌⊎◌}
use Rattle.access.specs.declared.entities.Kind.TheVariants.{Account, Role}
use Rattle.access.specs.declared.code.Object.{Object}
use Rattle.access.specs.declared.code.Action.TheVariants as action
use Rattle.access.specs.declared.code.Line.{Line}
use Rattle.access.specs.Bits.{bit}
use Rattle.access.specs.Lists.{Lists}
use Rattle.access.specs.Numbers.{right_number}
use Rattle.access.specs.Places.{place_of}
use Rattle.grid.specs.Grids.{noted}
use Rattle.runs.specs.Standing.{Is, IsObject, OneOwner, Owns, entry_right}
use Rattle.runs.specs.States.{State, done}
use Rattle.runs.specs.Runs.{worker}
use Rattle.runs.specs.Saturated.{Rule}
use Rattle.holdings.specs.declared.calls.Call.{Call}
use Rattle.holdings.specs.declared.tables.Holdings.{Holdings}
use Rattle.extent.specs.declared.extents.Extent.{Extent}
use Rattle.extent.specs.Tests.{held, may, entry}
use Rattle.extent.specs.Shows.{Shows}
use Rattle.extent.specs.Growth.{Larger}

-- in whatever s grows to, a rule lets account v enter object x
abbrev pub Enters : Lists → Extent → Object → ℕ → Type 0
Enters L s x v = (t : Extent) (F : State) → Larger s t → Shows L t F → Rule L F (done F v (action.Call x))

-- two entities have one owner
pub record Peers (L : Lists) (e d : ℕ) : Type 0 where
  pub owner : ℕ
  pub first : Owns L owner e
  pub second : Owns L owner d

-- t has what account a begins in s, by single steps and by taking over others
pub record Begun (L : Lists) (h : Holdings) (a : ℕ) (s t : Extent) : Type 0 where
  pub switch : (v : ℕ) → Is L Account v → held h s a 6 v ≡ true → bit t.acted v ≡ true
  pub grant : (k e : ℕ) → k < 7 → may h s a k e ≡ true → noted t.given.rows k e ≡ true
  pub join : (q : ℕ) → Is L Role q → held h s a 4 q ≡ true → bit t.joined q ≡ true
  pub call : (x : Object) → IsObject L x → held h s a (right_number (entry_right x)) (place_of x) ≡ true → entry t x a ≡ true
  pub taken : (x : Object) (v : ℕ) → Is L Account v → entry s x v ≡ true → held h s a 4 (place_of x) ≡ true → bit t.acted v ≡ true

-- some account acted as holds right k on e
pub record Somebody (h : Holdings) (s : Extent) (k e : ℕ) : Type 0 where
  pub account : ℕ
  pub acted : bit s.acted account ≡ true
  pub holds : held h s account k e ≡ true

-- t has what accounts acted as lend to one another in s, where one can plant and somebody entered
pub record Lent (L : Lists) (h : Holdings) (s t : Extent) : Type 0 where
  pub entered : (e u : ℕ) (y : Object) → Somebody h s 4 e → bit s.places e ≡ true → bit s.acted u ≡ true
      → IsObject L y → Peers L e (place_of y) → entry t y u ≡ true

-- t has what the line adds to s
pub record Followed (L : Lists) (h : Holdings) (l : Line) (s t : Extent) : Type 0 where
  pub entered : (v : ℕ) (y : Object) → Is L Account v → entry s l.object v ≡ true → l.action ≡ action.Call y
      → (held h s (worker l.runner v) (right_number (entry_right y)) (place_of y) ≡ true) ⊎ OneOwner L l.object y
      → entry t y (worker l.runner v) ≡ true

-- whom a line of these numbers lets in has entered the object that it calls, or may not enter it
pub record Idle (h : Holdings) (s : Extent) (c : Call) : Type 0 where
  pub none : (v w : ℕ) → noted s.entrants.rows c.at v ≡ true → ((c.runner ≡ 0) × (w ≡ v)) ⊎ (bit c.runner w ≡ true)
      → (noted s.entrants.rows c.called w ≡ true)
      ⊎ ((c.one_owner ≡ false) × (noted s.holds.rows c.right c.place ≡ false) × (noted h.enterers.rows c.called w ≡ false))
