-- What a turn of an account adds, and a sweep that adds nothing.
use Rattle.std.proofs.Common.{◌≡◌, ℕ, [], length, sym, subst, arith}
use Rattle.access.specs.declared.entities.Kind.TheVariants.{Account}
use Rattle.access.specs.declared.code.Object.{Object}
use Rattle.access.specs.Lists.{◌∈◌, Lists}
use Rattle.access.specs.declared.code.Line.{Line}
use Rattle.runs.specs.declared.steps.Step.{Step}
use Rattle.runs.specs.declared.steps.Step.TheVariants.{Follow}
use Rattle.runs.specs.declared.steps.Entry.{Entry}
use Rattle.runs.specs.Standing.{Is}
use Rattle.runs.specs.States.{State, start, pair}
use Rattle.runs.specs.Runs.{Allowed, switch, grant, join, plant, call, follow, doer_of, ends}
use Rattle.runs.specs.Limits.{none, one_more}
use Rattle.runs.specs.Turns.{Tried, Turned}
use Rattle.runs.proofs.Growing.{part_trans}
use Rattle.catalogue.specs.Sound.{Sound}
use Rattle.lookup.specs.Tables.{Marked}
use Rattle.session.specs.Reached.{state_of, Filled}
use Rattle.session.specs.Rowed.{Rowed}
use Rattle.session.specs.declared.states.RunState.{RunState}
use Rattle.fitting.specs.Fits.{Powers}
use Rattle.fitting.specs.Smalls.{Small}
use Rattle.fitting.proofs.Allowing.{rowed_backed, held_from, fits_from, opens_from}
use Rattle.fitting.proofs.Smalls.{is_small, start_small, run_small}
use Rattle.saturation.specs.Progress.{no_lists, steps_of, Once, Few, Ran, Goes, Grown, Serves, Adds, Taken, Lent, Foothold, Begins, Began, Done}

pub ran_small : {L : Lists} {s : RunState} → Ran L s → Small (state_of L s)
ran_small {L} {s} r = run_small r.sound (start_small L s.opener (is_small r.sound r.opener)) r.run

module _ {p : Powers} {a : ℕ} {s : RunState} (g : Goes p.lists s) (w : Rowed p.lists (state_of p.lists s) a p.holds p.grants) where
  pub serves_rowed : Serves p a s
  serves_rowed = record { goes = g; backed = rowed_backed w }

  -- single steps, and then plants
  module _ {t u : RunState} (d : Grown p.lists s t) (e : Grown p.lists t u) where
    pub began_from : ((x : Step) → Tried p.lists x → Begins x → doer_of x ≡ a → Adds p (state_of p.lists s) (state_of p.lists t) x)
        → (a ∈ (state_of p.lists t).acted → (n : Entry) → n ∈ (state_of p.lists t).entered → Taken p (state_of p.lists u) n)
        → (a ∈ (state_of p.lists t).acted → (x : Object) (n : Entry) (b : ℕ) → Foothold p (state_of p.lists t) x n → b ∈ (state_of p.lists t).acted → Lent p (state_of p.lists u) (pair x b))
        → Began p.lists (state_of p.lists s) (state_of p.lists u) a
    began_from added taken lent = record {
      steps = λ x q b i h. part_trans ((added x q b i).part (opens_from h) (fits_from g.ran.sound (ran_small g.ran) (rw i w) h)) e.part;
      taken = λ x v m n h. (taken (d.part.acted _ m) (pair x v) (d.part.entered _ n)).is (held_from g.ran.sound w h);
      lent = λ x y v b m n h k j o i.
          (lent (d.part.acted _ m) y (pair x v) b (record { entered = d.part.entered _ n; alters = held_from g.ran.sound w h; owner = i }) (d.part.acted _ k)).is
          (held_from g.ran.sound w j) o;
    }

module _ {L : Lists} where
  -- an account that is not acted as begins nothing
  begins_acted : {S : State} {t : Step} → Begins t → Allowed L S t → doer_of t ∈ S.acted
  begins_acted b (switch m i h) = m
  begins_acted b (grant m i h) = m
  begins_acted b (join m i h) = m
  begins_acted b (plant m i h n t) = m
  begins_acted b (call m i h) = m
  begins_acted b (follow m i h) = elim b [ ]

  pub began_idle : {S T : State} {a : ℕ} → (a ∈ S.acted → ⊥) → Began L S T a
  began_idle {S} n = record {
    steps = λ t q b e h. absurd (n (subst (λ v. v ∈ S.acted) e (begins_acted b h)));
    taken = λ x v m k h. absurd (n m);
    lent = λ x y v u m k h j i o w. absurd (n m);
  }

  -- what an account begins, and lines, are all of its turn
  pub turned_by : {S T : State} {a : ℕ} → Began L S T a → ((v : ℕ) (l : Line) → l ∈ L.lines → Done L S T (Follow v l)) → Turned L S T a
  turned_by {S} {T} {a} b f = record {
    steps = λ t q e h. each q e h;
    taken = b.taken;
    lent = b.lent;
  }
    where
      each : {t : Step} → Tried L t → doer_of t ≡ a → Done L S T t
      each Tried.switch e h = b.steps _ Tried.switch tt e h
      each Tried.grant e h = b.steps _ Tried.grant tt e h
      each Tried.join e h = b.steps _ Tried.join tt e h
      each Tried.call e h = b.steps _ Tried.call tt e h
      each (Tried.follow {v = v} {l = l} n) e h = f v l n h

-- a session that was opened
pub opened_goes : {L : Lists} {k : ℕ} {s : RunState} → Sound L → Is L Account k → s.opener ≡ k → ((M : Lists) → state_of M s ≡ start M k) → steps_of s ≡ []
    → Filled s 0 → Marked s.marks (start L k) → Goes L s
opened_goes {L} {k} {s} sound i o state steps filled marked = record {
  ran = record {
    sound = sound;
    opener = rw o i;
    run = rw (o, steps, state L) ends;
    filled = subst (λ xs. Filled s (length xs)) (sym steps) filled;
    marked = rw (state L) marked;
  };
  once = subst (Once L) (sym (state no_lists)) (record {
    acted = one_more none (λ m. elim m [ ]);
    rights = none;
    members = none;
    entered = none;
    opened = λ g m. elim m [ ];
    joined = λ j m. elim m [ ];
  });
  few = subst (λ G. Few (length (steps_of s)) G) (sym (state no_lists)) (rw steps (omega arith));
}
