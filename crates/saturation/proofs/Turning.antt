-- What is tried one by one is all tried.
use Rattle.std.proofs.Common.{◌≡◌, ℕ, ◌<◌, true, List, [], ◌∷◌, refl, ap}
use mathlib.Core.List.Memᴰ
use Rattle.access.specs.declared.rights.Right.{Right}
use Rattle.access.specs.declared.code.Event.TheVariants.{Inserted, Updated, Deleted}
use Rattle.access.specs.declared.code.Object.{Object}
use Rattle.access.specs.declared.code.Object.TheVariants as object
use Rattle.access.specs.declared.roles.Member.{Member}
use Rattle.access.specs.Lists.{◌∈◌, public}
use Rattle.access.specs.Places.{place_of}
use Rattle.runs.specs.declared.steps.Step.{Step}
use Rattle.runs.specs.declared.steps.Step.TheVariants.{Switch, Grant, Join, Call}
use Rattle.runs.specs.States.{State}
use Rattle.runs.specs.Rights.{right_record}
use Rattle.runs.specs.Runs.{doer_of}
use Rattle.runs.specs.Turns.{Tried}
use Rattle.lookup.specs.Tables.{SmallMember, SmallStep}
use Rattle.session.specs.Reached.{state_of}
use Rattle.session.specs.declared.states.RunState.{RunState}
use Rattle.fitting.specs.Fits.{Powers, Opens}
use Rattle.fitting.proofs.Allowing.{fits_to}
use Rattle.saturation.specs.Progress.{Serves, Adds, Begins}
use Rattle.saturation.proofs.Standing.{peopled, step_small}

-- the objects that entity e can have
abbrev pub objects_of : ℕ → List Object
objects_of e = object.Procedure e ∷ object.Triggers e Inserted ∷ object.Triggers e Updated ∷ object.Triggers e Deleted ∷ object.Created e ∷ []

pub object_there : (x : Object) → x ∈ objects_of (place_of x)
object_there (object.Procedure e) = Memᴰ.head refl
object_there (object.Triggers e Inserted) = Memᴰ.tail (Memᴰ.head refl)
object_there (object.Triggers e Updated) = Memᴰ.tail (Memᴰ.tail (Memᴰ.head refl))
object_there (object.Triggers e Deleted) = Memᴰ.tail (Memᴰ.tail (Memᴰ.tail (Memᴰ.head refl)))
object_there (object.Created e) = Memᴰ.tail (Memᴰ.tail (Memᴰ.tail (Memᴰ.tail (Memᴰ.head refl))))

pub object_only : {e : ℕ} {x : Object} → x ∈ objects_of e → place_of x ≡ e
object_only (Memᴰ.head p) = ap place_of p
object_only (Memᴰ.tail (Memᴰ.head p)) = ap place_of p
object_only (Memᴰ.tail (Memᴰ.tail (Memᴰ.head p))) = ap place_of p
object_only (Memᴰ.tail (Memᴰ.tail (Memᴰ.tail (Memᴰ.head p)))) = ap place_of p
object_only (Memᴰ.tail (Memᴰ.tail (Memᴰ.tail (Memᴰ.tail (Memᴰ.head p))))) = ap place_of p
object_only (Memᴰ.tail (Memᴰ.tail (Memᴰ.tail (Memᴰ.tail (Memᴰ.tail m))))) = elim m [ ]

-- what each kind of single step that account a begins adds to S is in T
pub record EachKind (p : Powers) (a : ℕ) (S T : State) : Type 0 where
  pub switch : (v : ℕ) → v < 96 → Adds p S T (Switch a v)
  pub grant : (e : ℕ) (r : Right) → e < 96 → Adds p S T (Grant a (right_record public e r true))
  pub join : (j : Member) → SmallMember j → Adds p S T (Join a j)
  pub call : (x : Object) → place_of x < 96 → Adds p S T (Call a x)

module _ {p : Powers} {s : RunState} {T : State} where
  -- the numbers of a step that adds anything are small
  adds_small : {a : ℕ} {t : Step} → Serves p a s → Tried p.lists t → doer_of t ≡ a
      → (SmallStep t → Opens p.lists (state_of p.lists s) t → Adds p (state_of p.lists s) T t) → Adds p (state_of p.lists s) T t
  adds_small {t = t} v q e h = record {
    part = λ o f.
        let g = v.goes.ran in
        (h (step_small g.sound (peopled g) q (fits_to t (rw e v.backed) o f)) o).part o f;
  }

  pub all_added : {a : ℕ} {t : Step} → Serves p a s → EachKind p a (state_of p.lists s) T → Tried p.lists t → Begins t → doer_of t ≡ a → Adds p (state_of p.lists s) T t
  all_added v k (Tried.switch {v = w}) _ e = adds_small v Tried.switch e (λ m o. rw e (k.switch w m))
  all_added v k (Tried.grant {e = n} {r = r}) _ e = adds_small v Tried.grant e (λ m o. rw e (k.grant n r m))
  all_added v k (Tried.join {m = j}) _ e = adds_small v Tried.join e (λ m o. rw e (k.join j m))
  all_added v k (Tried.call {x = x}) _ e = adds_small v Tried.call e (λ m o. rw e (k.call x m.0))
  all_added v k (Tried.follow n) b e = elim b [ ]
