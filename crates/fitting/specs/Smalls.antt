-- What holds of the numbers in every state that a run comes to.
use Rattle.std.specs.Prelude.{ℕ, ◌<◌}
use Rattle.access.specs.declared.code.Action.{Action}
use Rattle.access.specs.declared.code.Action.TheVariants.{Call, Grant, Join}
use Rattle.access.specs.declared.code.Line.{Line}
use Rattle.access.specs.Lists.{◌∈◌}
use Rattle.runs.specs.declared.steps.Entry.{Entry}
use Rattle.runs.specs.States.{State}
use Rattle.runs.specs.Runs.{worker}

-- what the action grants a right on has a number below 96
abbrev pub GrantsSmall : Action → Type 0
GrantsSmall (Call y) = Unit {0}
GrantsSmall (Grant g) = g.entity < 96
GrantsSmall (Join m) = Unit {0}

pub record SmallLine (l : Line) : Type 0 where
  pub runs : (v : ℕ) → v < 96 → worker l.runner v < 96
  pub grants : GrantsSmall l.action

-- the accounts acted as, those that entered, and what planted lines name have numbers below 96
pub record Small (S : State) : Type 0 where
  pub acted : (a : ℕ) → a ∈ S.acted → a < 96
  pub entered : (n : Entry) → n ∈ S.entered → n.account < 96
  pub planted : (l : Line) → l ∈ S.planted → SmallLine l
