-- How far a saturation has come.
use Rattle.std.specs.Prelude.{◌≡◌, ℕ, ◌+◌, ◌*◌, ◌≤◌, ◌⊎◌, List, [], length, vec_items}
use Rattle.access.specs.declared.entities.Kind.TheVariants.{Account}
use Rattle.access.specs.declared.rights.Right.TheVariants.{Alter, Impersonate}
use Rattle.access.specs.declared.code.Object.{Object}
use Rattle.access.specs.Lists.{◌∈◌, Lists}
use Rattle.access.specs.Places.{place_of}
use Rattle.catalogue.specs.Sound.{Sound}
use Rattle.runs.specs.declared.steps.Step.{Step}
use Rattle.runs.specs.declared.steps.Step.TheVariants.{Switch, Grant, Join, Plant, Call, Follow}
use Rattle.runs.specs.declared.steps.Entry.{Entry}
use Rattle.runs.specs.Standing.{Is, IsObject, OneOwner}
use Rattle.runs.specs.States.{State, Part, start, pair}
use Rattle.runs.specs.Rights.{Holds}
use Rattle.runs.specs.Runs.{Run, Allowed, after, doer_of}
use Rattle.runs.specs.Turns.{Tried, to_public}
use Rattle.runs.specs.Limits.{Distinct, Each, Opened, Joins}
use Rattle.lookup.specs.Tables.{Marked}
use Rattle.session.specs.Reached.{state_of, Filled}
use Rattle.session.specs.declared.states.RunState.{RunState}
use Rattle.saturation.specs.Kept.{Onward}
use Rattle.fitting.specs.Fits.{Powers, Tells, Opens, Fits, Backed}

abbrev pub no_lists : Lists
no_lists = record { entities = []; links = []; rights = []; members = []; lines = [] }

-- what a run has come to, apart from the records of the catalogue
abbrev pub gained : RunState → State
gained s = state_of no_lists s

abbrev pub steps_of : RunState → List Step
steps_of s = vec_items s.steps

-- what a run gained, it gained once: accounts, rights for everyone with the option, members and entered pairs
pub record Once (L : Lists) (G : State) : Type 0 where
  pub acted : Distinct G.acted
  pub rights : Distinct G.rights
  pub members : Distinct G.members
  pub entered : Distinct G.entered
  pub opened : Each (Opened L) G.rights
  pub joined : Each (Joins L) G.members

-- at most three steps for an account, one for a record, and two for a pair
abbrev pub Few : ℕ → State → Type 0
Few n G = n + 3 ≤ 3 * length G.acted + length G.rights + length G.members + 2 * length G.entered

-- a run of a session of its opener, with its tables and its room
pub record Ran (L : Lists) (s : RunState) : Type 0 where
  pub sound : Sound L
  pub opener : Is L Account s.opener
  pub run : Run L (start L s.opener) (steps_of s) (state_of L s)
  pub filled : Filled s (length (steps_of s))
  pub marked : Marked s.marks (state_of L s)

-- the state of a saturation: a run whose steps are few beside what it gained
pub record Goes (L : Lists) (s : RunState) : Type 0 where
  pub ran : Ran L s
  pub once : Once L (gained s)
  pub few : Few (length (steps_of s)) (gained s)

-- t goes on from s, and is s where it has no step more
pub record Grown (L : Lists) (s t : RunState) : Type 0 where
  pub goes : Goes L t
  pub opener : t.opener ≡ s.opener
  pub part : Part (state_of L s) (state_of L t)
  pub onward : Onward (state_of L s) (state_of L t)
  pub steps : length (steps_of s) ≤ length (steps_of t)
  pub quiet : length (steps_of t) ≡ length (steps_of s) → t ≡ s

-- a saturation, and what account a can do in it
pub record Serves (p : Powers) (a : ℕ) (s : RunState) : Type 0 where
  pub goes : Goes p.lists s
  pub backed : Backed p.lists (state_of p.lists s) a p.holds p.grants

-- T has what the step adds to S, if it is allowed there
abbrev pub Done : Lists → State → State → Step → Type 0
Done L S T t = Allowed L S t → Part (after S t) T

-- the step is one that an account begins, and no line that is followed
abbrev pub Begins : Step → Type 0
Begins (Switch a v) = Unit {0}
Begins (Grant a g) = Unit {0}
Begins (Join a m) = Unit {0}
Begins (Plant a l) = Unit {0}
Begins (Call a x) = Unit {0}
Begins (Follow v l) = ⊥

-- T has what account a adds to S by a step that it begins, or by a plant and what follows it (the last two are those of Turned)
pub record Began (L : Lists) (S T : State) (a : ℕ) : Type 0 where
  pub steps : (t : Step) → Tried L t → Begins t → doer_of t ≡ a → Done L S T t
  pub taken : (x : Object) (v : ℕ) → a ∈ S.acted → pair x v ∈ S.entered → Holds L S a (place_of x) Alter
      → (v ∈ T.acted) ⊎ (to_public v ∈ T.rights)
  pub lent : (x y : Object) (v u : ℕ) → a ∈ S.acted → pair x v ∈ S.entered → Holds L S a (place_of x) Alter
      → u ∈ S.acted → Holds L S a u Impersonate → IsObject L y → OneOwner L x y → pair y u ∈ T.entered

-- T has all that the step adds to S, if the powers allow it there
pub record Adds (p : Powers) (S T : State) (t : Step) : Type 0 where
  pub part : Opens p.lists S t → Fits p.lists p.holds p.grants t → Part (after S t) T

-- who entered an object in which the actor can plant is acted as, or everyone may impersonate it
pub record Taken (p : Powers) (T : State) (n : Entry) : Type 0 where
  pub is : Tells p.holds (place_of n.object) Alter → (n.account ∈ T.acted) ⊎ (to_public n.account ∈ T.rights)

-- whom the actor may impersonate has entered the object
pub record Lent (p : Powers) (T : State) (n : Entry) : Type 0 where
  pub is : Tells p.holds n.account Impersonate → IsObject p.lists n.object → n ∈ T.entered

-- the actor can plant in the object of an entry, and the owner is that of object y
pub record Foothold (p : Powers) (S : State) (y : Object) (n : Entry) : Type 0 where
  pub entered : n ∈ S.entered
  pub alters : Tells p.holds (place_of n.object) Alter
  pub owner : OneOwner p.lists n.object y
