-- The laboratory: account 4 may run a procedure of account 3, and alter a table that the procedure writes to.
use Rattle.std.specs.Prelude.{ℕ, true, false, List, [], ◌∷◌, ◌++◌}
use Rattle.access.specs.declared.entities.Kind.{Kind}
use Rattle.access.specs.declared.entities.Kind.TheVariants as kind
use Rattle.access.specs.declared.entities.Mode.{Mode}
use Rattle.access.specs.declared.entities.Mode.TheVariants.{Creator, Parent}
use Rattle.access.specs.declared.entities.Entity.{Entity}
use Rattle.access.specs.declared.rights.Right.TheVariants.{Alter, Execute, Impersonate}
use Rattle.access.specs.declared.code.Event.TheVariants.{Inserted}
use Rattle.access.specs.declared.code.Object.TheVariants as object
use Rattle.access.specs.declared.code.Runner.TheVariants as runner
use Rattle.access.specs.declared.code.Action.TheVariants as action
use Rattle.access.specs.declared.code.Line.{Line}
use Rattle.access.specs.Lists.{Lists, new_entities, public}
use Rattle.runs.specs.declared.steps.Step.{Step}
use Rattle.runs.specs.declared.steps.Step.TheVariants.{Call, Plant, Follow}
use Rattle.runs.specs.Rights.{right_record}

abbrev pub an_entity : Kind → ℕ → ℕ → Mode → Entity
an_entity k p o m = record { kind = k; parent = p; owner = o; mode = m }

-- procedure 7 sets off the triggers of table 6 as account 3
abbrev pub lab_line : Line
lab_line = record { object = object.Procedure 7; runner = runner.Account 3; action = action.Call (object.Triggers 6 Inserted) }

abbrev pub lab : Lists
lab = record {
  entities = new_entities ++ an_entity kind.Account 0 3 Creator ∷ an_entity kind.Account 0 4 Creator ∷ an_entity kind.Container 0 3 Parent
      ∷ an_entity kind.Table 5 3 Creator ∷ an_entity kind.Procedure 5 3 Creator ∷ an_entity kind.Account 0 8 Creator ∷ [];
  links = [];
  rights = right_record 4 7 Execute false ∷ right_record 4 6 Alter false ∷ right_record 8 4 Impersonate false ∷ [];
  members = [];
  lines = lab_line ∷ [];
}

-- account 4 plants it in the triggers of table 6: whoever sets them off lets everyone impersonate account 3
abbrev pub lab_trap : Line
lab_trap = record { object = object.Triggers 6 Inserted; runner = runner.Caller; action = action.Grant (right_record public 3 Impersonate true) }

-- account 4 calls the procedure, follows its line into the triggers as account 3, plants, and follows what it planted as account 3
abbrev pub lab_steps : List Step
lab_steps = Call 4 (object.Procedure 7) ∷ Follow 4 lab_line ∷ Plant 4 lab_trap ∷ Follow 3 lab_trap ∷ []
