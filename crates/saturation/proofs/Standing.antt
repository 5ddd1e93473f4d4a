-- What stands in the state of a saturation.
use Rattle.std.proofs.Common.{◌≡◌, ℕ, ◌<◌, ◌≤◌, length, vec_items, refl, arith}
use Rattle.access.specs.declared.code.Object.{Object}
use Rattle.access.specs.declared.code.Action.{Action}
use Rattle.access.specs.declared.code.Action.TheVariants as action
use Rattle.access.specs.Lists.{◌∈◌, Lists}
use Rattle.runs.specs.declared.steps.Step.{Step}
use Rattle.runs.specs.declared.steps.Entry.{Entry}
use Rattle.runs.specs.Standing.{a_grant, a_join}
use Rattle.runs.specs.States.{State, Sub}
use Rattle.runs.specs.Runs.{Allowed, switch, grant, join, call, follow, plant}
use Rattle.runs.specs.Turns.{Tried}
use Rattle.runs.proofs.Grounds.{runners, calls, IsCall, to}
use Rattle.runs.proofs.Realizing.{Peopled, worker_account, run_peopled, start_peopled}
use Rattle.runs.proofs.Counting.{counts_are_limits}
use Rattle.catalogue.specs.Sound.{Sound}
use Rattle.lookup.specs.Tables.{SmallEntry, SmallAction, SmallStep, Known}
use Rattle.session.specs.Reached.{state_of, Filled}
use Rattle.session.specs.declared.states.RunState.{RunState}
use Rattle.fitting.proofs.Finding.{first_in, from_alone}
use Rattle.fitting.proofs.Smalls.{stands_small, is_small, object_small}
use Rattle.saturation.specs.Progress.{steps_of, gained, Ran, Goes}

module _ {L : Lists} (s : Sound L) where
  call_small : {w : ℕ} {t : Action} → w < 96 → IsCall L t → SmallAction w t
  call_small h (to o) = (object_small s o, h)

  call_known : {t : Action} → IsCall L t → (y : Object) × (t ≡ action.Call y)
  call_known (to {y = y} o) = (y, refl)

  module _ {S : State} (p : Peopled L S) where
    pub entry_small : {n : Entry} → n ∈ S.entered → SmallEntry n
    entry_small m = let e = p.entered _ m in (object_small s e.0, is_small s e.1)

    pub step_small : {t : Step} → Tried L t → Allowed L S t → SmallStep t
    step_small q (switch m i h) = is_small s i
    step_small q (grant {g = g} m (a_grant o e) h) = stands_small s g.entity e
    step_small q (join m (a_join a r) h) = (is_small s a, is_small s r)
    step_small q (plant m i h n t) = tt
    step_small q (call m i h) = (object_small s i, is_small s (p.acted _ m))
    step_small (Tried.follow {l = l} n) (follow m i h) =
        call_small (is_small s (worker_account L s (p.entered _ m).1 (runners L s l n))) (calls L s l n)

  pub step_known : {t : Step} → Tried L t → Known t
  step_known Tried.switch = tt
  step_known Tried.grant = (refl, refl)
  step_known Tried.join = tt
  step_known Tried.call = tt
  step_known (Tried.follow {l = l} n) = call_known (calls L s l n)

pub gained_rights : (L : Lists) (s : RunState) → Sub (gained s).rights (state_of L s).rights
gained_rights L s x m = first_in (vec_items s.grants) L.rights (from_alone (vec_items s.grants) m)

pub gained_members : (L : Lists) (s : RunState) → Sub (gained s).members (state_of L s).members
gained_members L s x m = first_in (vec_items s.joins) L.members (from_alone (vec_items s.joins) m)

module _ {L : Lists} {s : RunState} where
  pub peopled : Ran L s → Peopled L (state_of L s)
  peopled r = run_peopled L r.sound (start_peopled L r.sound s.opener r.opener) r.run

  pub acted_small : (a : ℕ) → Goes L s → a ∈ (state_of L s).acted → a < 96
  acted_small a g m = is_small g.ran.sound ((peopled g.ran).acted a m)

  pub entered_small : (n : Entry) → Goes L s → n ∈ (state_of L s).entered → SmallEntry n
  entered_small n g m = entry_small g.ran.sound (peopled g.ran) m

  -- there is room for more steps
  pub room : Goes L s → length (steps_of s) ≤ 4045
  room g =
      let p = peopled g.ran in
      let l = counts_are_limits L g.ran.sound in
      let G = gained s in
      omega (
        arith,
        g.few,
        l.acted G.acted g.once.acted p.acted,
        l.grants G.rights g.once.rights g.once.opened,
        l.joins G.members g.once.members g.once.joined,
        l.entered G.entered g.once.entered (λ n m. let e = p.entered n m in record { object = e.0; account = e.1 }),
      )

pub filled_more : {s : RunState} (n m : ℕ) → n ≤ m → Filled s n → Filled s m
filled_more n m h f = record {
  kept = record {
    acted = omega (arith, f.kept.acted);
    grants = omega (arith, f.kept.grants);
    joins = omega (arith, f.kept.joins);
    planted = omega (arith, f.kept.planted);
    entered = omega (arith, f.kept.entered);
  };
  steps = omega (arith, f.steps);
}
