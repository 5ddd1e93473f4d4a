-- What a run has come to.
use Rattle.std.specs.Prelude.{ℕ, List, [], ◌∷◌}
use Rattle.access.specs.declared.rights.RightRecord.{RightRecord}
use Rattle.access.specs.declared.roles.Member.{Member}
use Rattle.access.specs.declared.code.Line.{Line}
use Rattle.access.specs.declared.code.Object.{Object}
use Rattle.access.specs.declared.code.Action.{Action}
use Rattle.access.specs.declared.code.Action.TheVariants.{Call, Grant, Join}
use Rattle.access.specs.Lists.{◌∈◌, Lists}
use Rattle.runs.specs.declared.steps.Entry.{Entry}

-- the accounts acted as, the records, the planted lines, and the objects entered, each with an account
pub record State : Type 0 where
  pub acted : List ℕ
  pub rights : List RightRecord
  pub members : List Member
  pub planted : List Line
  pub entered : List Entry

abbrev pub Sub : {A : Type 0} → List A → List A → Type 0
Sub {A} xs ys = (x : A) → x ∈ xs → x ∈ ys

-- T has all that S has
pub record Part (S T : State) : Type 0 where
  pub acted : Sub S.acted T.acted
  pub rights : Sub S.rights T.rights
  pub members : Sub S.members T.members
  pub planted : Sub S.planted T.planted
  pub entered : Sub S.entered T.entered

-- the state in which account a opens a session
abbrev pub start : Lists → ℕ → State
start L a = record { acted = a ∷ []; rights = L.rights; members = L.members; planted = []; entered = [] }

abbrev pub pair : Object → ℕ → Entry
pair x v = record { object = x; account = v }

-- the state with an account more that is acted as
abbrev pub acting : State → ℕ → State
acting S v = record { acted = v ∷ S.acted; rights = S.rights; members = S.members; planted = S.planted; entered = S.entered }

-- the state with a planted line more
abbrev pub planting : State → Line → State
planting S l = record { acted = S.acted; rights = S.rights; members = S.members; planted = l ∷ S.planted; entered = S.entered }

-- the state once an account has done an action
abbrev pub done : State → ℕ → Action → State
done S w (Call y) = record { acted = S.acted; rights = S.rights; members = S.members; planted = S.planted; entered = pair y w ∷ S.entered }
done S w (Grant g) = record { acted = S.acted; rights = g ∷ S.rights; members = S.members; planted = S.planted; entered = S.entered }
done S w (Join m) = record { acted = S.acted; rights = S.rights; members = m ∷ S.members; planted = S.planted; entered = S.entered }
