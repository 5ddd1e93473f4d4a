-- A saturation goes on by steps.
use Rattle.std.proofs.Common.{◌≡◌, ℕ, ◌+◌, [], ◌∷◌, ◌++◌, length, sym, refl, ap, ◌∙◌, subst, arith}
use Rattle.std.proofs.lemmas.List.{length-append}
use Rattle.access.specs.Lists.{Lists}
use Rattle.runs.specs.declared.steps.Step.{Step}
use Rattle.runs.specs.States.{State, Part}
use Rattle.runs.specs.Runs.{Allowed, ends, goes, after}
use Rattle.runs.specs.Turns.{Tried}
use Rattle.runs.proofs.Growing.{part_same, part_trans, after_grows, run_then}
use Rattle.lookup.specs.Tables.{SmallStep, Marked}
use Rattle.session.specs.Reached.{state_of, Filled}
use Rattle.session.specs.declared.states.RunState.{RunState}
use Rattle.saturation.specs.Kept.{Onward}
use Rattle.saturation.specs.Progress.{no_lists, steps_of, gained, Few, Ran, Goes, Grown}
use Rattle.saturation.proofs.Standing.{gained_rights, gained_members, peopled, step_small}
use Rattle.saturation.proofs.Onwards.{onward_same, onward_trans, onward_after}
use Rattle.saturation.proofs.Gaining.{Beside, step_once}

-- what committing a step does
pub record Committed (s t : RunState) (step : Step) : Type 0 where
  pub opener : t.opener ≡ s.opener
  pub state : (L : Lists) → state_of L t ≡ after (state_of L s) step
  pub steps : steps_of t ≡ steps_of s ++ step ∷ []
  pub few : (n : ℕ) → Filled s n → Filled t (n + 1)
  pub marked : (S : State) → SmallStep step → Marked s.marks S → Marked t.marks (after S step)

pub longer : {s t : RunState} {step : Step} → Committed s t step → length (steps_of t) ≡ length (steps_of s) + 1
longer {s} {step = step} c = ap length c.steps ∙ length-append (steps_of s) (step ∷ [])

pub part_on : (L : Lists) {s t : RunState} {step : Step} → Committed s t step → Part (state_of L s) (state_of L t)
part_on L {s} {t} {step} c = rw (c.state L) (after_grows (state_of L s) step)

pub onward_on : (L : Lists) {s t : RunState} {step : Step} → Committed s t step → Onward (state_of L s) (state_of L t)
onward_on L {s} {t} {step} c = rw (c.state L) (onward_after (state_of L s) step)

pub beside : (L : Lists) (s : RunState) → Beside (gained s) (state_of L s)
beside L s = record { acted = refl; entered = refl; rights = gained_rights L s; members = gained_members L s }

module _ {L : Lists} where
  pub ran_on : {s t : RunState} {step : Step} → Ran L s → Allowed L (state_of L s) step → SmallStep step → Committed s t step → Ran L t
  ran_on {s} {t} {step} r h q c = record {
    sound = r.sound;
    opener = rw c.opener r.opener;
    run = rw (c.opener, c.steps, c.state L) (run_then r.run (goes h ends));
    filled = rw (longer c) (c.few (length (steps_of s)) r.filled);
    marked = rw (c.state L) (c.marked (state_of L s) q r.marked);
  }

  pub grown_same : {s : RunState} → Goes L s → Grown L s s
  grown_same {s} g = record { goes = g; opener = refl; part = part_same (state_of L s); onward = onward_same (state_of L s); steps = omega arith; quiet = λ e. refl }

  pub grown_trans : {s t u : RunState} → Grown L s t → Grown L t u → Grown L s u
  grown_trans {s} {t} {u} p q = record {
    goes = q.goes;
    opener = q.opener ∙ p.opener;
    part = part_trans p.part q.part;
    onward = onward_trans p.onward q.onward;
    steps = omega (arith, p.steps, q.steps);
    quiet = λ e. q.quiet (omega (arith, p.steps, q.steps, e)) ∙ p.quiet (omega (arith, p.steps, q.steps, e));
  }

  -- one step more
  pub grown_on : {s t : RunState} {step : Step} → Goes L s → Tried L step → Allowed L (state_of L s) step
      → (Part (after (state_of L s) step) (state_of L s) → ⊥) → Committed s t step → Grown L s t
  grown_on {s} {t} {step} g q h new c =
      let small = step_small g.ran.sound (peopled g.ran) q h in
      let (once, few) = step_once g.ran.sound (beside L s) g.once q h new in
      record {
        goes = record {
          ran = ran_on g.ran h small c;
          once = rw (c.state no_lists) once;
          few = subst (λ (G : State). Few (length (steps_of t)) G) (sym (c.state no_lists)) (rw (longer c) (few (length (steps_of s)) g.few));
        };
        opener = c.opener;
        part = part_on L c;
        onward = onward_on L c;
        steps = omega (arith, longer c);
        quiet = λ e. absurd (omega (arith, longer c, e));
      }
