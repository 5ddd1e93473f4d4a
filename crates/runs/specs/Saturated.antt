-- A state that no step adds to, up to records that say no more.
use Rattle.std.specs.Prelude.{ℕ, true, List}
use Rattle.access.specs.declared.entities.Kind.TheVariants.{Account, Role}
use Rattle.access.specs.declared.rights.Right.{Right}
use Rattle.access.specs.declared.rights.Right.TheVariants.{Alter, Impersonate}
use Rattle.access.specs.declared.code.Object.{Object}
use Rattle.access.specs.declared.code.Action.TheVariants.{Call, Grant, Join}
use Rattle.access.specs.declared.code.Line.{Line}
use Rattle.access.specs.Lists.{◌∈◌, Lists, public}
use Rattle.access.specs.Places.{place_of}
use Rattle.runs.specs.declared.steps.Step.{Step}
use Rattle.runs.specs.Standing.{Is, IsObject, OneOwner, Stands}
use Rattle.runs.specs.States.{State, Part, start, pair, acting, done}
use Rattle.runs.specs.Rights.{Holds, MayGrant, MayEnter, right_record, member_record}
use Rattle.runs.specs.Runs.{worker, MayDo, Run}

-- some account acted as in F may plant lines in x
pub record Plantable (L : Lists) (F : State) (x : Object) : Type 0 where
  pub planter : ℕ
  pub acted : planter ∈ F.acted
  pub holds : Holds L F planter (place_of x) Alter

-- what one more rule adds to F: each is a few steps of a run
pub data Rule (L : Lists) (F : State) : State → Type 0 where
  switch : {a v : ℕ} → a ∈ F.acted → Is L Account v → Holds L F a v Impersonate → Rule L F (acting F v)
  grant : {a e : ℕ} {r : Right} → a ∈ F.acted → Stands L e → MayGrant L F a e r → Rule L F (done F a (Grant (right_record public e r true)))
  join : {a q v : ℕ} → a ∈ F.acted → Is L Role q → Is L Account v → Holds L F a q Alter → Rule L F (done F a (Join (member_record v q)))
  call : {a : ℕ} {x : Object} → a ∈ F.acted → IsObject L x → MayEnter L F a x → Rule L F (done F a (Call x))
  follow : {v : ℕ} {l : Line} → pair l.object v ∈ F.entered → l ∈ L.lines
      → MayDo L F l.object (worker l.runner v) l.action → Rule L F (done F (worker l.runner v) l.action)
  -- who enters an object that can be planted in is taken over: plant, follow, switch
  taken : {v : ℕ} {x : Object} → pair x v ∈ F.entered → Plantable L F x → Rule L F (acting F v)
  -- who is acted as is lent to the objects of one owner: grant, plant, follow
  lent : {v u : ℕ} {x y : Object} → pair x v ∈ F.entered → Plantable L F x → u ∈ F.acted → IsObject L y → OneOwner L x y
      → Rule L F (done F u (Call y))

-- F has the start, and what each rule would add
pub record Closed (L : Lists) (k : ℕ) (F : State) : Type 0 where
  pub begun : Part (start L k) F
  pub shut : (G : State) → Rule L F G → Part G F

-- some run of a session of k comes to all that F has
pub record Realized (L : Lists) (k : ℕ) (F : State) : Type 0 where
  pub steps : List Step
  pub final : State
  pub run : Run L (start L k) steps final
  pub part : Part F final
