-- What an extent tells.
use Rattle.std.specs.Prelude.{ℕ}
use Rattle.access.specs.declared.entities.Kind.TheVariants.{Account}
use Rattle.access.specs.Lists.{◌∈◌, Lists}
use Rattle.runs.specs.Standing.{Is}
use Rattle.runs.specs.States.{State}
use Rattle.runs.specs.Laws.{Tells}
use Rattle.extent.specs.declared.extents.Extent.{Extent}
use Rattle.extent.specs.Shows.{Shows}

-- the sets are those of a state that tells exactly what the sessions of account a can come to
pub record Reached (L : Lists) (a : ℕ) (s : Extent) : Type 0 where
  pub state : State
  pub shows : Shows L s state
  pub accounts : (v : ℕ) → v ∈ state.acted → Is L Account v
  pub tells : Tells L a state
