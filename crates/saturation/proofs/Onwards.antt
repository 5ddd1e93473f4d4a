-- Records only come to those that are there, and rows tell as long as none comes.
use Rattle.std.proofs.Common.{◌≡◌, ℕ, ◌+◌, List, [], ◌∷◌, ◌++◌, length, vec_items, Option, None, Some, ◌<◌, get_or, sym, refl, ap, ◌∙◌, inl, ⊎_elim, false, arith}
use mathlib.Core.List.Memᴰ
use Rattle.access.specs.Numbers.{right_number}
use Rattle.access.specs.Sets.{told}
use Rattle.std.proofs.Math.ListN.{length-reverse_aux, replicate, set}
use Rattle.std.proofs.lemmas.List.{length-append, append_assoc, nil_from_length, get_or-replicate, get_or_past, length-replicate, get_or-set_other}
use Rattle.std.proofs.lemmas.Bool.{cases_eq, cases_lt, both_ways}
use Rattle.std.proofs.lemmas.Grind.{get_or-set_at}
use Rattle.std.proofs.lemmas.Option.{same_Some, none-some}
use Rattle.access.specs.declared.code.Action.{Action}
use Rattle.access.specs.declared.code.Action.TheVariants as action
use Rattle.access.specs.Lists.{Lists}
use Rattle.runs.specs.declared.steps.Step.{Step}
use Rattle.runs.specs.declared.steps.Step.TheVariants.{Switch, Grant, Join, Plant, Call, Follow}
use Rattle.runs.specs.States.{State, start, done}
use Rattle.runs.specs.Runs.{after, worker}
use Rattle.session.specs.Reached.{state_of, before}
use Rattle.session.specs.Rowed.{Rowed, Recorded}
use Rattle.session.specs.declared.models.holding.Rows.{Rows}
use Rattle.session.specs.declared.states.RunState.{RunState}
use Rattle.session.proofs.Rowing.{rowed_any}
use Rattle.fitting.proofs.Allowing.{recorded}
use Rattle.saturation.specs.Kept.{Onward, bare, Carries, TellsOf, Since, FreshOwn, FreshCarried, FreshAll, KeepsOwn, KeepsCarried, KeepsAll, Keeps}
use Rattle.saturation.specs.declared.keeping.OwnRows.{OwnRows}
use Rattle.order.specs.declared.rows.Row.{Row}
use Rattle.saturation.specs.declared.keeping.AllRows.{AllRows}
use Rattle.saturation.specs.declared.keeping.CarriedRow.{CarriedRow}
use Rattle.saturation.specs.declared.keeping.KeptRows.{KeptRows}

module _ {A : Type 0} where
  -- lists that are the same where they are as long
  same_end : {xs ys : List A} → (more : List A) × (ys ≡ more ++ xs) → length ys ≡ length xs → ys ≡ xs
  same_end {xs} {ys} (more, e) h =
      let none : more ≡ [] = nil_from_length more (omega (arith, ap length e, length-append more xs, h)) in
      e ∙ ap (λ zs. zs ++ xs) none

  ends_trans : {xs ys zs : List A} → (more : List A) × (ys ≡ more ++ xs) → (more : List A) × (zs ≡ more ++ ys) → (more : List A) × (zs ≡ more ++ xs)
  ends_trans {xs} (some, e) (more, f) = (more ++ some, f ∙ ap (λ ws. more ++ ws) e ∙ sym (append_assoc more some xs))

pub onward_same : (S : State) → Onward S S
onward_same S = record { rights = ([], refl); members = ([], refl) }

pub onward_trans : {S T U : State} → Onward S T → Onward T U → Onward S U
onward_trans p q = record { rights = ends_trans p.rights q.rights; members = ends_trans p.members q.members }

onward_done : (S : State) (w : ℕ) (t : Action) → Onward S (done S w t)
onward_done S w (action.Call y) = record { rights = ([], refl); members = ([], refl) }
onward_done S w (action.Grant g) = record { rights = (g ∷ [], refl); members = ([], refl) }
onward_done S w (action.Join m) = record { rights = ([], refl); members = (m ∷ [], refl) }

pub onward_after : (S : State) (t : Step) → Onward S (after S t)
onward_after S (Switch a v) = record { rights = ([], refl); members = ([], refl) }
onward_after S (Grant a g) = onward_done S a (action.Grant g)
onward_after S (Join a m) = onward_done S a (action.Join m)
onward_after S (Plant a l) = record { rights = ([], refl); members = ([], refl) }
onward_after S (Call a x) = onward_done S a (action.Call x)
onward_after S (Follow v l) = onward_done S (worker l.runner v) l.action

before_length : {A : Type 0} (xs ys : List A) → length (before xs ys) ≡ length xs + length ys
before_length xs ys = length-reverse_aux xs ys

-- rows tell of a state with the same records
told_any : {L : Lists} {S T : State} (of : List (Option Rows)) → S.rights ≡ T.rights → S.members ≡ T.members → TellsOf L S of → TellsOf L T of
told_any {L} {S} {T} of e f h a r q =
    rowed_any L a r.holds.sets r.grants.sets S T
    (record { rights = λ x m. rw e at m; members = λ x m. rw f at m })
    (record { rights = λ x m. rw e m; members = λ x m. rw f m })
    (h a r q)

-- nothing is kept
none_there : (n a : ℕ) (r : Rows) → get_or (replicate n None) a None ≡ Some r → ⊥
none_there n a r e = ⊎_elim
    (λ h. none-some r (sym (get_or-replicate n a None None h) ∙ e))
    (λ h. none-some r (sym (get_or_past (replicate n None) a None (omega (arith, length-replicate {A = Option Rows} n None, h))) ∙ e))
    (cases_lt a n)

told_none : {L : Lists} {S : State} (n : ℕ) → TellsOf L S (replicate n None)
told_none n a r e = absurd (none_there n a r e)

-- rows that tell of an account are kept at its number
pub told_more : (L : Lists) (S : State) (of : List (Option Rows)) (i : ℕ) (rows : Rows) → i < length of
    → Rowed L S i rows.holds.sets rows.grants.sets → TellsOf L S of → TellsOf L S (set of i (Some rows))
told_more L S of i rows h w f a r t =
    ⊎_elim
    (λ (s : a ≡ i).
    let same : rows ≡ r = same_Some rows r (sym (get_or-set_at of i a (Some rows) None s h) ∙ t) in
    rw (s, ← same) w)
    (λ ne. f a r (sym (get_or-set_other of i a (Some rows) None ne) ∙ t))
    (cases_eq a i)

module _ (L : Lists) (s : RunState) where
  many_rights : (n : ℕ) → length (vec_items s.grants) ≡ n → length (state_of L s).rights ≡ n + length L.rights
  many_rights n e = omega (arith, before_length (vec_items s.grants) L.rights, e)

  many_members : (n : ℕ) → length (vec_items s.joins) ≡ n → length (state_of L s).members ≡ n + length L.members
  many_members n e = omega (arith, before_length (vec_items s.joins) L.members, e)

  -- what told in a state before tells in this one, if it has as many records
  pub own_on : (k : OwnRows) → KeepsOwn L (state_of L s) k → length (vec_items s.joins) ≡ k.joins → FreshOwn L (state_of L s) k
  own_on k h j =
      let many = many_members k.joins j in
      record { members = many; tells = told_any k.of refl (sym (same_end h.onward.members (many ∙ sym h.fresh.members))) h.fresh.tells }

  pub all_on : (k : AllRows) → KeepsAll L (state_of L s) k → length (vec_items s.grants) ≡ k.grants → length (vec_items s.joins) ≡ k.joins
      → FreshAll L (state_of L s) k
  all_on k h g j =
      let long = many_rights k.grants g in
      let many = many_members k.joins j in
      record {
        rights = long;
        members = many;
        tells = told_any k.of (sym (same_end h.onward.rights (long ∙ sym h.fresh.rights))) (sym (same_end h.onward.members (many ∙ sym h.fresh.members))) h.fresh.tells;
      }

  pub carried_on : (k : CarriedRow) → KeepsCarried L (state_of L s) k → length (vec_items s.grants) ≡ k.grants → FreshCarried L (state_of L s) k
  carried_on k h g =
      let f = h.fresh in
      let long = many_rights k.grants g in
      let rights = same_end h.onward.rights (long ∙ sym f.rights) in
      record {
        rights = long;
        carries = record {
          sound = λ e r l t. let (d, w, m) = f.carries.sound e r l t in (d, w, rw rights m);
          full = λ e d r l w m. f.carries.full e d r l w (rw rights at m);
        };
      }

  pub own_none : (n j : ℕ) → length (vec_items s.joins) ≡ j → FreshOwn L (state_of L s) (record { of = replicate n None; joins = j })
  own_none n j f = record { members = many_members j f; tells = told_none n }

  pub all_none : (n g j : ℕ) → length (vec_items s.grants) ≡ g → length (vec_items s.joins) ≡ j
      → FreshAll L (state_of L s) (record { of = replicate n None; grants = g; joins = j })
  all_none n g j e f = record { rights = many_rights g e; members = many_members j f; tells = told_none n }

  pub carried_new : (k : CarriedRow) → length (vec_items s.grants) ≡ k.grants → Carries L (state_of L s) k.row.sets → FreshCarried L (state_of L s) k
  carried_new k g c = record { rights = many_rights k.grants g; carries = c }

  -- the catalogue's rights, with no others
  pub bare_recorded : Recorded L [] (vec_items s.joins) (bare L (state_of L s))
  bare_recorded =
      let r = recorded L s in
      record {
        rights = λ x m. Memᴰ.append_left [] m;
        all_rights = λ x m. ⊎_elim (λ n. n) (λ n. elim n [ ]) (Memᴰ.append_cases L.rights m);
        members = r.members;
        all_members = r.all_members;
      }

-- what tells in a state told in one before it
pub since_now : {S : State} {Fresh : State → Type 0} → Fresh S → Since S Fresh
since_now {S} f = record { before = S; onward = onward_same S; fresh = f }

since_on : {S T : State} {Fresh : State → Type 0} → Onward S T → Since S Fresh → Since T Fresh
since_on o h = record { before = h.before; onward = onward_trans h.onward o; fresh = h.fresh }

pub keeps_on : {L : Lists} {S T : State} {k : KeptRows} → Onward S T → Keeps L S k → Keeps L T k
keeps_on o h = record {
  sources = record { own = since_on o h.sources.own; carried = since_on o h.sources.carried };
  all = since_on o h.all;
}

pub keeps_start : (L : Lists) (a n : ℕ) (row : Row) → ((x r : ℕ) → told row.sets x r ≡ false)
    → Keeps L (start L a) (record {
      sources = record { own = record { of = replicate n None; joins = 0 }; carried = record { row = row; grants = 0 } };
      all = record { of = replicate n None; grants = 0; joins = 0 };
    })
keeps_start L a n row f = record {
  sources = record {
    own = since_now (record { members = omega arith; tells = told_none n });
    carried = since_now (record {
      rights = omega arith;
      carries = record { sound = λ e r l t. absurd (both_ways _ (f e (right_number r)) t); full = λ e d r l w m. inl m };
    });
  };
  all = since_now (record { rights = omega arith; members = omega arith; tells = told_none n });
}
