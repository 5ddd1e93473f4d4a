-- Only on what stands may an account grant a right.
use Rattle.std.proofs.Common.{ℕ, List}
use Rattle.access.specs.declared.rights.Right.{Right}
use Rattle.access.specs.declared.code.Action.{Action}
use Rattle.access.specs.declared.code.Action.TheVariants as action
use Rattle.access.specs.declared.code.Line.{Line}
use Rattle.access.specs.Lists.{Lists}
use Rattle.order.proofs.TreeLaws.{within_stands}
use Rattle.catalogue.specs.Sound.{Sound, TakesRight}
use Rattle.runs.specs.declared.steps.Step.{Step}
use Rattle.runs.specs.Limits.{Each}
use Rattle.runs.specs.Standing.{Stands, Proper, a_call, a_grant, a_join}
use Rattle.runs.specs.States.{State, done}
use Rattle.runs.specs.Rights.{CanGrant, MayGrant}
use Rattle.runs.specs.Runs.{worker, LineStands, Allowed, switch, grant, join, plant, call, follow, after, Run, ends, goes}
use Rattle.runs.proofs.Covering.{every_more}
use Rattle.runs.proofs.Grounds.{all_in, calls}
use Rattle.runs.proofs.Realizing.{Peopled, call_proper, step_peopled, start_peopled}
use Rattle.extent.specs.declared.extents.Extent.{Extent}
use Rattle.extent.specs.Shows.{Came}

module _ {L : Lists} (s : Sound L) where
  -- the entities of all rights of a state stand
  abbrev Grounded : State → Type 0
  Grounded S = Each (λ g. Stands L g.entity) S.rights

  line_proper : {S : State} {l : Line} → Peopled L S → LineStands L S l → Proper L l.action
  line_proper {l = l} p (LineStands.in_catalogue m) = call_proper L s (calls L s l m)
  line_proper {l = l} p (LineStands.planted m) = (p.planted l m).1

  done_grounded : (S : State) → Grounded S → (w : ℕ) (t : Action) → Proper L t → Grounded (done S w t)
  done_grounded S h w t (a_call o) = h
  done_grounded S h w t (a_grant {g = g} p e) = every_more (λ x. Stands L x.entity) g h e
  done_grounded S h w t (a_join a q) = h

  step_grounded : {S : State} {t : Step} → Peopled L S → Grounded S → Allowed L S t → Grounded (after S t)
  step_grounded p h (switch m i k) = h
  step_grounded {S} p h (grant {a = a} {g = g} m q k) = done_grounded S h a (action.Grant g) q
  step_grounded p h (join m q k) = h
  step_grounded p h (plant m o k n q) = h
  step_grounded p h (call m o k) = h
  step_grounded {S} p h (follow {v = v} {l = l} m n k) = done_grounded S h (worker l.runner v) l.action (line_proper p n)

  run_grounded : {S T : State} {ss : List Step} → Peopled L S → Grounded S → Run L S ss T → Grounded T
  run_grounded p h ends = h
  run_grounded p h (goes a r) = run_grounded (step_peopled L s p a) (step_grounded p h a) r

  came_grounded : {e : Extent} (c : Came L e) → Grounded c.state
  came_grounded {e} c g m =
      run_grounded (start_peopled L s e.opener c.opener) (λ x k. (all_in (TakesRight L.entities) L.rights x s.rights.fit k).1) c.realized.run
      g (c.realized.part.rights g m)

  can_stands : (S : State) → Grounded S → {p e : ℕ} {r : Right} → CanGrant L S p e r → Stands L e
  can_stands S h (CanGrant.by_option m) = h _ m
  can_stands S h (CanGrant.by_owning w o) = within_stands L.entities w

  pub may_stands : {x : Extent} (c : Came L x) {a e : ℕ} {r : Right} → MayGrant L c.state a e r → Stands L e
  may_stands c (MayGrant.itself k) = can_stands c.state (came_grounded c) k
  may_stands c (MayGrant.in_role i k) = can_stands c.state (came_grounded c) k
