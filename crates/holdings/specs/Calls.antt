-- What the numbers of lines tell.
use Rattle.std.specs.Prelude.{◌≡◌, ℕ, true, List, Some, Decides}
use Rattle.std.specs.List.{slice_get}
use Rattle.access.specs.declared.code.Object.{Object}
use Rattle.access.specs.declared.code.Runner.TheVariants as runner
use Rattle.access.specs.declared.code.Action.TheVariants as action
use Rattle.access.specs.declared.code.Line.{Line}
use Rattle.access.specs.Bits.{bit}
use Rattle.access.specs.Lists.{Lists}
use Rattle.access.specs.Numbers.{right_number}
use Rattle.access.specs.Places.{place_of}
use Rattle.lookup.specs.Tables.{slot_of}
use Rattle.runs.specs.Standing.{OneOwner, entry_right}
use Rattle.holdings.specs.declared.calls.Call.{Call}

-- the numbers of a line that calls object y
pub record Calls (L : Lists) (l : Line) (c : Call) (y : Object) : Type 0 where
  pub at : c.at ≡ slot_of l.object
  pub called : c.called ≡ slot_of y
  pub place : c.place ≡ place_of y
  pub right : c.right ≡ right_number (entry_right y)
  pub owner : Decides c.one_owner (OneOwner L l.object y)
  pub caller : l.runner ≡ runner.Caller → c.runner ≡ 0
  pub account : (w : ℕ) → l.runner ≡ runner.Account w → bit c.runner w ≡ true

-- the numbers at the place of a line are its
abbrev pub CallsTold : Lists → List Call → Type 0
CallsTold L cs = (i : ℕ) (l : Line) (c : Call) (y : Object) → slice_get L.lines i ≡ Some l → slice_get cs i ≡ Some c → l.action ≡ action.Call y → Calls L l c y
