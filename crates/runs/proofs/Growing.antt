-- A state that contains another allows every step of it, and still contains it after the step; runs append.
use Rattle.std.proofs.Common.{ℕ, List, ◌∷◌, ◌++◌}
use mathlib.Core.List.Memᴰ
use Rattle.access.specs.declared.code.Object.{Object}
use Rattle.access.specs.declared.code.Runner.{Runner}
use Rattle.access.specs.declared.code.Action.{Action}
use Rattle.access.specs.declared.code.Action.TheVariants as action
use Rattle.access.specs.declared.code.Line.{Line}
use Rattle.access.specs.Lists.{Lists}
use Rattle.runs.specs.declared.steps.Step.{Step}
use Rattle.runs.specs.declared.steps.Step.TheVariants.{Switch, Grant, Join, Plant, Call, Follow}
use Rattle.runs.specs.States.{State, Sub, Part, done}
use Rattle.runs.specs.Runs.{worker, Lends, the_caller, an_account, MayDo, by_right, by_owner, by_grant, by_alter, LineStands, in_catalogue, planted, Allowed, switch, grant, join, plant, call, follow, after, Run, ends, goes}
use Rattle.runs.specs.Laws.{LargerAllows, LargerRuns, RunsGrow, RunsAppend}
use Rattle.runs.proofs.RightLaws.{holds_more, may_more}

pub more : {A : Type 0} {y : A} {xs ys : List A} → Sub xs ys → Sub (y ∷ xs) (y ∷ ys)
more h x (Memᴰ.head e) = Memᴰ.head e
more h x (Memᴰ.tail m) = Memᴰ.tail (h x m)

pub part_same : (S : State) → Part S S
part_same S = record { acted = λ x m. m; rights = λ x m. m; members = λ x m. m; planted = λ x m. m; entered = λ x m. m }

pub part_trans : {S T U : State} → Part S T → Part T U → Part S U
part_trans p q = record {
  acted = λ x m. q.acted x (p.acted x m);
  rights = λ x m. q.rights x (p.rights x m);
  members = λ x m. q.members x (p.members x m);
  planted = λ x m. q.planted x (p.planted x m);
  entered = λ x m. q.entered x (p.entered x m);
}

module _ {L : Lists} {S T : State} (p : Part S T) where
  lends_more : {a : ℕ} {n : Runner} → Lends L S a n → Lends L T a n
  lends_more the_caller = the_caller
  lends_more (an_account i h) = an_account i (holds_more p h)

  does_more : {x : Object} {w : ℕ} {t : Action} → MayDo L S x w t → MayDo L T x w t
  does_more (by_right h) = by_right (holds_more p h)
  does_more (by_owner o) = by_owner o
  does_more (by_grant h) = by_grant (may_more p h)
  does_more (by_alter h) = by_alter (holds_more p h)

  pub stands_more : {l : Line} → LineStands L S l → LineStands L T l
  stands_more (in_catalogue m) = in_catalogue m
  stands_more (planted m) = planted (p.planted _ m)

  pub allowed_more : {s : Step} → Allowed L S s → Allowed L T s
  allowed_more (switch m i h) = switch (p.acted _ m) i (holds_more p h)
  allowed_more (grant m i h) = grant (p.acted _ m) i (may_more p h)
  allowed_more (join m i h) = join (p.acted _ m) i (holds_more p h)
  allowed_more (plant m i h n t) = plant (p.acted _ m) i (holds_more p h) (lends_more n) t
  allowed_more (call m i h) = call (p.acted _ m) i (holds_more p h)
  allowed_more (follow m i h) = follow (p.entered _ m) (stands_more i) (does_more h)

module _ {S T : State} (p : Part S T) where
  done_more : (w : ℕ) (t : Action) → Part (done S w t) (done T w t)
  done_more w (action.Call y) = record { acted = p.acted; rights = p.rights; members = p.members; planted = p.planted; entered = more p.entered }
  done_more w (action.Grant g) = record { acted = p.acted; rights = more p.rights; members = p.members; planted = p.planted; entered = p.entered }
  done_more w (action.Join m) = record { acted = p.acted; rights = p.rights; members = more p.members; planted = p.planted; entered = p.entered }

  pub after_more : (s : Step) → Part (after S s) (after T s)
  after_more (Switch a v) = record { acted = more p.acted; rights = p.rights; members = p.members; planted = p.planted; entered = p.entered }
  after_more (Grant a g) = done_more a (action.Grant g)
  after_more (Join a m) = done_more a (action.Join m)
  after_more (Plant a l) = record { acted = p.acted; rights = p.rights; members = p.members; planted = more p.planted; entered = p.entered }
  after_more (Call a x) = done_more a (action.Call x)
  after_more (Follow v l) = done_more (worker l.runner v) l.action

done_grows : (S : State) (w : ℕ) (t : Action) → Part S (done S w t)
done_grows S w (action.Call y) = record { acted = λ x m. m; rights = λ x m. m; members = λ x m. m; planted = λ x m. m; entered = λ x m. Memᴰ.tail m }
done_grows S w (action.Grant g) = record { acted = λ x m. m; rights = λ x m. Memᴰ.tail m; members = λ x m. m; planted = λ x m. m; entered = λ x m. m }
done_grows S w (action.Join j) = record { acted = λ x m. m; rights = λ x m. m; members = λ x m. Memᴰ.tail m; planted = λ x m. m; entered = λ x m. m }

pub after_grows : (S : State) (s : Step) → Part S (after S s)
after_grows S (Switch a v) = record { acted = λ x m. Memᴰ.tail m; rights = λ x m. m; members = λ x m. m; planted = λ x m. m; entered = λ x m. m }
after_grows S (Grant a g) = done_grows S a (action.Grant g)
after_grows S (Join a m) = done_grows S a (action.Join m)
after_grows S (Plant a l) = record { acted = λ x m. m; rights = λ x m. m; members = λ x m. m; planted = λ x m. Memᴰ.tail m; entered = λ x m. m }
after_grows S (Call a x) = done_grows S a (action.Call x)
after_grows S (Follow v l) = done_grows S (worker l.runner v) l.action

-- a run of a smaller state, made from T
pub record Mirrored (L : Lists) (T : State) (ss : List Step) (S' : State) : Type 0 where
  pub final : State
  pub run : Run L T ss final
  pub part : Part S' final

module _ {L : Lists} where
  pub run_grows : {S T : State} {ss : List Step} → Run L S ss T → Part S T
  run_grows (ends {S = S}) = part_same S
  run_grows (goes {S = S} {s = s} h r) = part_trans (after_grows S s) (run_grows r)

  mirrored_goes : {S S' T : State} {s : Step} {ss : List Step} → Part S T → Allowed L S s → Mirrored L (after T s) ss S' → Mirrored L T (s ∷ ss) S'
  mirrored_goes p h m = record { final = m.final; run = goes (allowed_more p h) m.run; part = m.part }

  pub run_more : {T S S' : State} {ss : List Step} → Part S T → Run L S ss S' → Mirrored L T ss S'
  run_more {T} p ends = record { final = T; run = ends; part = p }
  run_more p (goes {s = s} h r) = mirrored_goes p h (run_more (after_more p s) r)

  pub run_then : {U S T : State} {ts ss : List Step} → Run L S ss T → Run L T ts U → Run L S (ss ++ ts) U
  run_then ends q = q
  run_then (goes h r) q = goes h (run_then r q)

pub larger_allows : LargerAllows
larger_allows L S T t p h = (allowed_more p h, after_more p t)

pub larger_runs : LargerRuns
larger_runs L S T U ss p r = let m = run_more p r in (m.final, m.run, m.part)

pub runs_grow : RunsGrow
runs_grow L S T ss r = run_grows r

pub runs_append : RunsAppend
runs_append L S T U ss ts p q = run_then p q
