-- The laws of runs.
use Rattle.std.specs.Prelude.{◌≡◌, ℕ, ◌↔◌, List, ◌++◌}
use Rattle.access.specs.declared.entities.Kind.TheVariants.{Account, Role}
use Rattle.access.specs.declared.rights.Right.{Right}
use Rattle.access.specs.Lists.{◌∈◌, Lists}
use Rattle.access.specs.Orders.{RoleBelow, Within}
use Rattle.catalogue.specs.Sound.{Sound}
use Rattle.runs.specs.declared.steps.Step.{Step}
use Rattle.runs.specs.Standing.{Is, Stands}
use Rattle.runs.specs.States.{State, Part, start}
use Rattle.runs.specs.Rights.{Holds}
use Rattle.runs.specs.Runs.{Allowed, after, Run, ActsAs, Use, Hold}
use Rattle.runs.specs.Saturated.{Closed, Realized, Rule}
use Rattle.runs.specs.Turns.{Turned}
use Rattle.runs.specs.Limits.{Limits}

-- a larger state allows each step that a smaller one allows, and is larger after it
abbrev pub LargerAllows : Type 0
LargerAllows = (L : Lists) (S T : State) (t : Step) → Part S T → Allowed L S t → Allowed L T t × Part (after S t) (after T t)

-- a larger state has the runs of a smaller one, and they end larger
abbrev pub LargerRuns : Type 0
LargerRuns = (L : Lists) (S T U : State) (ss : List Step) → Part S T → Run L S ss U → (V : State) × Run L T ss V × Part U V

-- a run loses nothing
abbrev pub RunsGrow : Type 0
RunsGrow = (L : Lists) (S T : State) (ss : List Step) → Run L S ss T → Part S T

-- a run can go on from where another ends
abbrev pub RunsAppend : Type 0
RunsAppend = (L : Lists) (S T U : State) (ss ts : List Step) → Run L S ss T → Run L T ts U → Run L S (ss ++ ts) U

-- a session of a comes to act as b exactly when it comes to use every right that one of b does
abbrev pub ActingIsUsing : Type 0
ActingIsUsing =
    (L : Lists) → Sound L → (a b : ℕ) → Is L Account b → ActsAs L a b ↔ ((e : ℕ) (r : Right) → Stands L e → Use L b e r → Use L a e r)

-- F has what any run of a session of k comes to
pub record Covers (L : Lists) (k : ℕ) (F : State) : Type 0 where
  pub acts : (v : ℕ) → ActsAs L k v → v ∈ F.acted
  pub uses : (e : ℕ) (r : Right) → Use L k e r → (v : ℕ) × (v ∈ F.acted) × Holds L F v e r
  pub holds : (e : ℕ) (r : Right) → Hold L k e r → Holds L F k e r

-- a closed state covers every run
abbrev pub SaturationCovers : Type 0
SaturationCovers = (L : Lists) → Sound L → (k : ℕ) (F : State) → Closed L k F → Covers L k F

-- F has exactly what the runs of a session of k come to
pub record Tells (L : Lists) (k : ℕ) (F : State) : Type 0 where
  pub acts : (v : ℕ) → ActsAs L k v ↔ (v ∈ F.acted)
  pub uses : (e : ℕ) (r : Right) → Use L k e r ↔ ((v : ℕ) × (v ∈ F.acted) × Holds L F v e r)
  pub holds : (e : ℕ) (r : Right) → Hold L k e r ↔ Holds L F k e r

-- a closed state that a run comes to tells exactly what can be come to
abbrev pub SaturationTells : Type 0
SaturationTells = (L : Lists) → Sound L → (k : ℕ) (F : State) → Closed L k F → Realized L k F → Tells L k F

-- what some run comes to, some run comes to with one rule more
abbrev pub RulesAreSteps : Type 0
RulesAreSteps = (L : Lists) → Sound L → (k : ℕ) → Is L Account k → (F G : State) → Realized L k F → Rule L F G → Realized L k G

-- the relation is between the elements, and is an order on them
pub record Order (on : ℕ → Type 0) (below : ℕ → ℕ → Type 0) : Type 0 where
  pub between : (x y : ℕ) → below x y → on x × on y
  pub reflexive : (x : ℕ) → on x → below x x
  pub transitive : (x y z : ℕ) → below x y → below y z → below x z
  pub antisymmetric : (x y : ℕ) → below x y → below y x → x ≡ y

abbrev pub TwoOrders : Type 0
TwoOrders =
    (L : Lists) → Sound L → Order (Is L Role) (RoleBelow L.entities L.links) × Order (Stands L) (Within L.entities)

-- a state that a run comes to, and to which no account's turn adds anything, tells exactly what can be come to
abbrev pub TurnsTell : Type 0
TurnsTell =
    (L : Lists) → Sound L → (k : ℕ) → Is L Account k → (S : State) (steps : List Step) → Run L (start L k) steps S
    → ((a : ℕ) → Is L Account a → Turned L S S a) → Tells L k S

-- a sound catalogue leaves little to add
abbrev pub CountsAreLimits : Type 0
CountsAreLimits = (L : Lists) → Sound L → Limits L
