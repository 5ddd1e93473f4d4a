-- What steps add stays, and can be told from an earlier state.
use Rattle.std.proofs.Common.{◌≡◌, ℕ, ◌≤◌, sym, subst, List, length, take, inl, inr, ⊎_elim}
use Rattle.std.proofs.lemmas.List.{take_all}
use Rattle.access.specs.declared.sets.RightSet.{RightSet}
use Rattle.access.specs.declared.code.Object.{Object}
use Rattle.access.specs.declared.code.Line.{Line}
use Rattle.access.specs.Lists.{◌∈◌, Lists}
use Rattle.runs.specs.declared.steps.Step.{Step}
use Rattle.runs.specs.declared.steps.Step.TheVariants.{Switch, Grant, Join, Plant, Call, Follow}
use Rattle.runs.specs.declared.steps.Entry.{Entry}
use Rattle.runs.specs.States.{State, Part, pair, done}
use Rattle.runs.specs.Runs.{follow, MayDo, worker}
use Rattle.runs.proofs.RightLaws.{holds_more, may_more}
use Rattle.runs.proofs.Growing.{part_trans, stands_more, after_more, allowed_more}
use Rattle.session.specs.declared.states.RunState.{RunState}
use Rattle.fitting.specs.Fits.{Powers, Opens, Backed}
use Rattle.saturation.specs.Progress.{Grown, Serves, Done, Adds, Taken, Lent, Foothold}

module _ (L : Lists) {S T : State} (p : Part S T) where
  opens_more : (t : Step) → Opens L S t → Opens L T t
  opens_more (Switch a v) m = p.acted a m
  opens_more (Grant a g) m = p.acted a m
  opens_more (Join a j) m = p.acted a m
  opens_more (Plant a l) m = p.acted a m
  opens_more (Call a x) m = p.acted a m
  opens_more (Follow v l) m = (p.entered _ m.0, stands_more p m.1)

  backed_more : {a : ℕ} {held granted : List RightSet} → Backed L S a held granted → Backed L T a held granted
  backed_more b = record { holds = λ e r t. holds_more p (b.holds e r t); grants = λ e r t. may_more p (b.grants e r t) }

  pub done_later : {R : State} {t : Step} → Done L R S t → Done L R T t
  done_later h a = part_trans (h a) p

  pub done_before : {U : State} {t : Step} → Done L T U t → Done L S U t
  done_before {t = t} h a = part_trans (after_more p t) (h (allowed_more p a))

-- a line adds the same for each account that entered its object, where it runs under the same account for both
pub done_like : {L : Lists} {S T : State} {u v : ℕ} {l : Line} → worker l.runner u ≡ worker l.runner v → pair l.object u ∈ S.entered
    → Done L S T (Follow u l) → Done L S T (Follow v l)
done_like {L} {S} {T} {l = l} e m h (follow n i d) =
    subst (λ w. Part (done S w l.action) T) e (h (follow m i (subst (λ w. MayDo L S l.object w l.action) (sym e) d)))

module _ {p : Powers} where
  -- the powers still serve in what a saturation has grown to
  pub serves_more : {a : ℕ} {s t : RunState} → Serves p a s → Grown p.lists s t → Serves p a t
  serves_more v g = record { goes = g.goes; backed = backed_more p.lists g.part v.backed }

  pub adds_later : {S T U : State} {t : Step} → Part T U → Adds p S T t → Adds p S U t
  adds_later q h = record { part = λ o f. part_trans (h.part o f) q }

  pub adds_before : {S T U : State} {t : Step} → Part S T → Adds p T U t → Adds p S U t
  adds_before {t = t} q h = record { part = λ o f. part_trans (after_more q t) (h.part (opens_more p.lists q t o) f) }

  pub taken_later : {T U : State} {n : Entry} → Part T U → Taken p T n → Taken p U n
  taken_later q h = record { is = λ t. ⊎_elim (λ m. inl (q.acted _ m)) (λ m. inr (q.rights _ m)) (h.is t) }

  pub lent_later : {T U : State} {n : Entry} → Part T U → Lent p T n → Lent p U n
  lent_later q h = record { is = λ t i. q.entered _ (h.is t i) }

  pub foothold_later : {S T : State} {x : Object} {n : Entry} → Part S T → Foothold p S x n → Foothold p T x n
  foothold_later q d = record { entered = q.entered _ d.entered; alters = d.alters; owner = d.owner }

-- what is in a list is among its first elements, if these are all
pub in_all : {A : Type 0} {x : A} (xs : List A) (n : ℕ) → length xs ≤ n → x ∈ xs → x ∈ take n xs
in_all xs n h m = rw (take_all n xs h) m
