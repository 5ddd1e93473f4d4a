-- What holds of every state that a run comes to, and of rows that are kept.
use Rattle.std.specs.Prelude.{◌≡◌, ℕ, Option, Some, None, IfSome}
use Rattle.access.specs.Lists.{Lists}
use Rattle.catalogue.specs.Sound.{Sound}
use Rattle.runs.specs.States.{State}
use Rattle.runs.specs.declared.steps.Step.{Step}
use Rattle.runs.specs.Runs.{after}
use Rattle.fitting.specs.Smalls.{Small}
use Rattle.session.specs.Rowed.{Rowed}
use Rattle.replay.specs.declared.courses.Seen.{Seen}

-- rows that are kept tell what their account holds and may grant
abbrev pub SeenTells : Lists → State → Option Seen → Type 0
SeenTells L S seen = IfSome seen (λ s. Rowed L S s.account s.rows.holds.sets s.rows.grants.sets)

-- rows are kept, and they tell what the account holds and may grant
abbrev pub RowsOf : Lists → State → ℕ → Option Seen → Type 0
RowsOf L S account None = ⊥
RowsOf L S account (Some s) = (s.account ≡ account) × Rowed L S account s.rows.holds.sets s.rows.grants.sets

-- what holds of a run's lists, its state and the rows that are kept, throughout
pub record Keeps (L : Lists) (S : State) (seen : Option Seen) : Type 0 where
  pub sound : Sound L
  pub small : Small S
  pub kept : SeenTells L S seen

-- the step leaves the records as they are
pub record SameRecords (t : Step) : Type 0 where
  pub rights : (S : State) → (after S t).rights ≡ S.rights
  pub members : (S : State) → (after S t).members ≡ S.members
