-- Tests that compute: what stands, who holds and may grant, the moves of saturation, and the state that they come to.
use Rattle.std.proofs.Common.{ℕ, zero, suc, Bool, true, false, not, eqb, List, [], ◌∷◌, ◌++◌, map, length, Some, None, Option}
use Rattle.std.specs.List.{slice_get}
use Rattle.access.specs.declared.entities.Kind.{Kind}
use Rattle.access.specs.declared.entities.Kind.TheVariants as kind
use Rattle.access.specs.declared.entities.Entity.{Entity}
use Rattle.access.specs.declared.rights.Right.{Right}
use Rattle.access.specs.declared.rights.Right.TheVariants.{Alter, Impersonate}
use Rattle.access.specs.declared.rights.RightRecord.{RightRecord}
use Rattle.access.specs.declared.roles.Member.{Member}
use Rattle.access.specs.declared.code.Event.{Event}
use Rattle.access.specs.declared.code.Event.TheVariants.{Inserted, Updated, Deleted}
use Rattle.access.specs.declared.code.Object.{Object}
use Rattle.access.specs.declared.code.Object.TheVariants as object
use Rattle.access.specs.declared.code.Runner.{Runner}
use Rattle.access.specs.declared.code.Runner.TheVariants as runner
use Rattle.access.specs.declared.code.Action.{Action}
use Rattle.access.specs.declared.code.Action.TheVariants as action
use Rattle.access.specs.declared.code.Line.{Line}
use Rattle.access.specs.Lists.{Lists, stands, public}
use Rattle.access.specs.Numbers.{right_number, kind_number, rights}
use Rattle.access.specs.Orders.{role_below}
use Rattle.access.specs.Places.{place_of}
use Rattle.catalogue.specs.Judgements.{in_parent}
use Rattle.runs.specs.declared.steps.Entry.{Entry}
use Rattle.runs.specs.Standing.{entry_right}
use Rattle.runs.specs.States.{State, start, pair, acting, done}
use Rattle.runs.specs.Rights.{right_record, member_record}
use Rattle.runs.specs.Runs.{worker}

-- the second test is computed only where the first asks for it
unfoldable pub and_then : Bool → (Unit {0} → Bool) → Bool
and_then true f = f tt
and_then false f = false

unfoldable pub or_else : Bool → (Unit {0} → Bool) → Bool
or_else true f = true
or_else false f = f tt

abbrev pub same_bool : Bool → Bool → Bool
same_bool true b = b
same_bool false b = not b

unfoldable pub any : {A : Type 0} → (A → Bool) → List A → Bool
any f [] = false
any f (x ∷ xs) = or_else (f x) (λ _. any f xs)

unfoldable pub every : {A : Type 0} → (A → Bool) → List A → Bool
every f [] = true
every f (x ∷ xs) = and_then (f x) (λ _. every f xs)

unfoldable pub each : {A B : Type 0} → (A → List B) → List A → List B
each f [] = []
each f (x ∷ xs) = f x ++ each f xs

unfoldable pub keep : {A : Type 0} → Bool → A → List A → List A
keep true x xs = x ∷ xs
keep false x xs = xs

unfoldable pub only : {A : Type 0} → (A → Bool) → List A → List A
only f [] = []
only f (x ∷ xs) = keep (f x) x (only f xs)

unfoldable pub more_of : Bool → (Unit {0} → List ℕ) → List ℕ
more_of true f = []
more_of false f = f tt

abbrev pub upto : ℕ → List ℕ
upto zero = []
upto (suc n) = n ∷ upto n

-- equality
abbrev pub event_code : Event → ℕ
event_code Inserted = 1
event_code Updated = 2
event_code Deleted = 3

abbrev pub shape : Object → ℕ
shape (object.Procedure o) = 0
shape (object.Triggers t a) = event_code a
shape (object.Created c) = 4

abbrev pub runner_code : Runner → ℕ
runner_code runner.Caller = zero
runner_code (runner.Account w) = suc w

abbrev pub alike_right : Right → Right → Bool
alike_right r s = eqb (right_number r) (right_number s)

abbrev pub alike_object : Object → Object → Bool
alike_object x y = and_then (eqb (place_of x) (place_of y)) (λ _. eqb (shape x) (shape y))

abbrev pub alike_record : RightRecord → RightRecord → Bool
alike_record g h = and_then (eqb g.entity h.entity) (λ _. and_then (alike_right g.right h.right)
    (λ _. and_then (eqb g.principal h.principal) (λ _. same_bool g.option h.option)))

abbrev pub alike_member : Member → Member → Bool
alike_member m n = and_then (eqb m.account n.account) (λ _. eqb m.role n.role)

abbrev pub alike_entry : Entry → Entry → Bool
alike_entry m n = and_then (eqb m.account n.account) (λ _. alike_object m.object n.object)

abbrev pub alike_action : Action → Action → Bool
alike_action (action.Call x) (action.Call y) = alike_object x y
alike_action (action.Call x) (action.Grant g) = false
alike_action (action.Call x) (action.Join m) = false
alike_action (action.Grant g) (action.Call y) = false
alike_action (action.Grant g) (action.Grant h) = alike_record g h
alike_action (action.Grant g) (action.Join m) = false
alike_action (action.Join m) (action.Call y) = false
alike_action (action.Join m) (action.Grant g) = false
alike_action (action.Join m) (action.Join n) = alike_member m n

abbrev pub alike_line : Line → Line → Bool
alike_line l k = and_then (alike_object l.object k.object) (λ _. and_then (eqb (runner_code l.runner) (runner_code k.runner))
    (λ _. alike_action l.action k.action))

-- tests of what stands at a number
abbrev pub is_kind : Kind → Option Entity → Bool
is_kind k None = false
is_kind k (Some x) = eqb (kind_number x.kind) (kind_number k)

abbrev pub is_made : Option Entity → Bool
is_made None = false
is_made (Some x) = and_then (eqb (kind_number x.kind) (kind_number kind.Container)) (λ _. in_parent x.mode)

abbrev pub owner_is : ℕ → Option Entity → Bool
owner_is p None = false
owner_is p (Some x) = eqb x.owner p

abbrev pub one_owner : Option Entity → Option Entity → Bool
one_owner None o = false
one_owner (Some x) o = owner_is x.owner o

abbrev pub up_from : ℕ → Option Entity → ℕ
up_from e None = e
up_from e (Some x) = x.parent

abbrev pub objects_of : Kind → Bool → ℕ → List Object
objects_of kind.Container b e = keep b (object.Created e) []
objects_of kind.Table b e = object.Triggers e Inserted ∷ object.Triggers e Updated ∷ object.Triggers e Deleted ∷ []
objects_of kind.Procedure b e = object.Procedure e ∷ []
objects_of kind.Account b e = []
objects_of kind.Role b e = []

abbrev pub objects_at : ℕ → Option Entity → List Object
objects_at e None = []
objects_at e (Some x) = objects_of x.kind (in_parent x.mode) e

module _ (L : Lists) where
  abbrev pub numbers : List ℕ
  numbers = upto (length L.entities)

  abbrev pub at : ℕ → Option Entity
  at e = slice_get L.entities e

  abbrev pub isᵇ : Kind → ℕ → Bool
  isᵇ k e = is_kind k (at e)

  abbrev pub are : Kind → List ℕ
  are k = only (isᵇ k) numbers

  abbrev pub objects : List Object
  objects = each (λ e. objects_at e (at e)) numbers

  abbrev pub objectᵇ : Object → Bool
  objectᵇ (object.Procedure o) = isᵇ kind.Procedure o
  objectᵇ (object.Triggers t a) = isᵇ kind.Table t
  objectᵇ (object.Created c) = is_made (at c)

  -- e and what is met from it, going to parents
  abbrev pub chain : ℕ → ℕ → List ℕ
  chain zero e = []
  chain (suc n) e = e ∷ more_of (eqb (up_from e (at e)) e) (λ _. chain n (up_from e (at e)))

  abbrev pub above : ℕ → List ℕ
  above e = more_of (not (stands L.entities e)) (λ _. chain (suc e) e)

  abbrev pub belowᵇ : ℕ → ℕ → Bool
  belowᵇ q s = role_below L.entities L.links q s

  module _ (F : State) where
    abbrev pub role_of : ℕ → ℕ → Member → Bool
    role_of a q m = and_then (eqb a m.account) (λ _. belowᵇ q m.role)

    abbrev pub in_roleᵇ : ℕ → ℕ → Bool
    in_roleᵇ a q = or_else (belowᵇ q public) (λ _. any (role_of a q) F.members)

    -- a, and the roles that it is in
    abbrev pub principals : ℕ → List ℕ
    principals a = a ∷ only (in_roleᵇ a) numbers

    abbrev pub ownsᵇ : ℕ → List ℕ → Bool
    ownsᵇ p cs = any (λ d. owner_is p (at d)) cs

    abbrev pub gives : ℕ → List ℕ → Right → RightRecord → Bool
    gives p cs r g = and_then (eqb p g.principal) (λ _. and_then (alike_right r g.right) (λ _. any (eqb g.entity) cs))

    abbrev pub hasᵇ : List ℕ → Right → ℕ → Bool
    hasᵇ cs r p = or_else (ownsᵇ p cs) (λ _. any (gives p cs r) F.rights)

    abbrev pub holdsᵇ : ℕ → ℕ → Right → Bool
    holdsᵇ a e r = any (hasᵇ (above e) r) (principals a)

    abbrev pub opens : ℕ → ℕ → Right → RightRecord → Bool
    opens p e r g = and_then (eqb p g.principal) (λ _. and_then (alike_right r g.right) (λ _. and_then (eqb e g.entity) (λ _. g.option)))

    abbrev pub canᵇ : ℕ → List ℕ → Right → ℕ → Bool
    canᵇ e cs r p = or_else (ownsᵇ p cs) (λ _. any (opens p e r) F.rights)

    abbrev pub mayᵇ : ℕ → ℕ → Right → Bool
    mayᵇ a e r = any (canᵇ e (above e) r) (principals a)

    abbrev pub plantᵇ : Object → Bool
    plantᵇ x = any (λ a. holdsᵇ a (place_of x) Alter) F.acted

    abbrev pub ownerᵇ : Object → Object → Bool
    ownerᵇ x y = one_owner (at (place_of x)) (at (place_of y))

    abbrev pub doesᵇ : Object → ℕ → Action → Bool
    doesᵇ x w (action.Call y) = or_else (ownerᵇ x y) (λ _. holdsᵇ w (place_of y) (entry_right y))
    doesᵇ x w (action.Grant g) = mayᵇ w g.entity g.right
    doesᵇ x w (action.Join m) = holdsᵇ w m.role Alter

-- what a rule is tried at
pub data Move : Type 0 where
  switching : ℕ → ℕ → Move
  granting : ℕ → ℕ → Right → Move
  joining : ℕ → ℕ → ℕ → Move
  calling : ℕ → Object → Move
  following : ℕ → Line → Move
  taking : ℕ → Object → Move
  lending : ℕ → Object → ℕ → Object → Move

abbrev pub added : State → Move → State
added F (switching a v) = acting F v
added F (granting a e r) = done F a (action.Grant (right_record public e r true))
added F (joining a q v) = done F a (action.Join (member_record v q))
added F (calling a x) = done F a (action.Call x)
added F (following v l) = done F (worker l.runner v) l.action
added F (taking v x) = acting F v
added F (lending v x u y) = done F u (action.Call y)

abbrev pub done_there : State → ℕ → Action → Bool
done_there F w (action.Call y) = any (alike_entry (pair y w)) F.entered
done_there F w (action.Grant g) = any (alike_record g) F.rights
done_there F w (action.Join m) = any (alike_member m) F.members

abbrev pub there : State → Move → Bool
there F (switching a v) = any (eqb v) F.acted
there F (granting a e r) = done_there F a (action.Grant (right_record public e r true))
there F (joining a q v) = done_there F a (action.Join (member_record v q))
there F (calling a x) = done_there F a (action.Call x)
there F (following v l) = done_there F (worker l.runner v) l.action
there F (taking v x) = any (eqb v) F.acted
there F (lending v x u y) = done_there F u (action.Call y)

module _ (L : Lists) where
  abbrev pub enteredᵇ : State → Object → ℕ → Bool
  enteredᵇ F x v = any (alike_entry (pair x v)) F.entered

  abbrev pub applies : State → Move → Bool
  applies F (switching a v) = and_then (any (eqb a) F.acted) (λ _. and_then (isᵇ L kind.Account v) (λ _. holdsᵇ L F a v Impersonate))
  applies F (granting a e r) = and_then (any (eqb a) F.acted) (λ _. and_then (stands L.entities e) (λ _. mayᵇ L F a e r))
  applies F (joining a q v) =
      and_then (any (eqb a) F.acted) (λ _. and_then (isᵇ L kind.Role q) (λ _. and_then (isᵇ L kind.Account v) (λ _. holdsᵇ L F a q Alter)))
  applies F (calling a x) = and_then (any (eqb a) F.acted) (λ _. and_then (objectᵇ L x) (λ _. holdsᵇ L F a (place_of x) (entry_right x)))
  applies F (following v l) =
      and_then (enteredᵇ F l.object v) (λ _. and_then (any (alike_line l) L.lines) (λ _. doesᵇ L F l.object (worker l.runner v) l.action))
  applies F (taking v x) = and_then (enteredᵇ F x v) (λ _. plantᵇ L F x)
  applies F (lending v x u y) = and_then (enteredᵇ F x v) (λ _. and_then (any (eqb u) F.acted) (λ _. and_then (objectᵇ L y)
      (λ _. and_then (ownerᵇ L F x y) (λ _. plantᵇ L F x))))

  abbrev pub actor_moves : ℕ → List Move
  actor_moves a = map (switching a) (are L kind.Account) ++ (each (λ e. map (granting a e) rights) (numbers L)
      ++ (each (λ q. map (joining a q) (are L kind.Account)) (are L kind.Role) ++ map (calling a) (objects L)))

  abbrev pub entry_moves : State → Entry → List Move
  entry_moves F n = taking n.account n.object ∷ (map (following n.account) L.lines
      ++ each (λ u. map (lending n.account n.object u) (objects L)) F.acted)

  abbrev pub moves : State → List Move
  moves F = each actor_moves F.acted ++ each (entry_moves F) F.entered

  -- the move is idle: what it adds is there, or it is not allowed
  abbrev pub idle : State → Move → Bool
  idle F m = or_else (there F m) (λ _. not (applies F m))

  abbrev pub move_by : Bool → State → Move → State
  move_by true F m = F
  move_by false F m = added F m

  abbrev pub move_all : State → List Move → State
  move_all F [] = F
  move_all F (m ∷ ms) = move_all (move_by (idle F m) F m) ms

  abbrev pub stop_or : Bool → State → (Unit {0} → State) → State
  stop_or true F f = F
  stop_or false F f = f tt

  -- n sweeps over all moves, or fewer where all are idle
  abbrev pub sweeps : ℕ → State → State
  sweeps zero F = F
  sweeps (suc n) F = stop_or (every (idle F) (moves F)) F (λ _. sweeps n (move_all F (moves F)))

  abbrev pub has_start : ℕ → State → Bool
  has_start k F = and_then (any (eqb k) F.acted) (λ _. and_then (every (λ g. any (alike_record g) F.rights) L.rights)
      (λ _. every (λ m. any (alike_member m) F.members) L.members))

  abbrev pub closedᵇ : ℕ → State → Bool
  closedᵇ k F = and_then (has_start k F) (λ _. every (idle F) (moves F))

  abbrev pub reached : ℕ → ℕ → State
  reached n k = sweeps n (start L k)

  -- F tells what k can come to
  abbrev pub solves : ℕ → State → Bool
  solves k F = and_then (isᵇ L kind.Account k) (λ _. closedᵇ k F)

  abbrev pub usesᵇ : State → ℕ → Right → Bool
  usesᵇ F e r = and_then (stands L.entities e) (λ _. any (λ v. holdsᵇ L F v e r) F.acted)
