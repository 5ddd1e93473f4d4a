-- What an account holds and may grant, by the catalogue's rights or by those that everyone is given.
use Rattle.std.proofs.Common.{◌≡◌, ℕ, ◌<◌, true, ◌||◌, ◌⊎◌, List, Decides, vec_items, inl, inr, ⊎_elim, ◌∙◌, sym, subst}
use Rattle.std.proofs.lemmas.Bool.{or_cases, or_left, or_right}
use Rattle.access.specs.declared.rights.Right.{Right}
use Rattle.access.specs.declared.rights.RightRecord.{RightRecord}
use Rattle.access.specs.declared.sets.RightSet.{RightSet}
use Rattle.access.specs.Lists.{◌∈◌, Lists, public}
use Rattle.access.specs.Numbers.{right_number}
use Rattle.access.specs.Orders.{Within}
use Rattle.access.specs.Sets.{told}
use Rattle.order.specs.Spreads.{Carried}
use Rattle.runs.proofs.Ordering.{place_stands}
use Rattle.runs.specs.States.{State}
use Rattle.runs.specs.Rights.{right_record, Has, by_record, CanGrant, by_option, InRole, as_anyone, as_member, Holds, MayGrant}
use Rattle.runs.proofs.RightLaws.{Knows, public_in, holds_known, may_known}
use Rattle.fitting.proofs.Finding.{from_before, first_in, last_in}
use Rattle.fitting.proofs.Smalls.{stands_small}
use Rattle.lookup.proofs.Slots.{opened}
use Rattle.session.specs.Marks.{Says}
use Rattle.session.specs.Reached.{state_of}
use Rattle.session.specs.Rowed.{Rowed}
use Rattle.session.specs.declared.states.RunState.{RunState}
use Rattle.saturation.specs.Kept.{bare, Carries}
use Rattle.saturation.specs.Progress.{Goes}

-- the row tells which rights everyone is given with the option
abbrev pub Given : State → List RightSet → Type 0
Given S row = (e : ℕ) (r : Right) → e < 96 → Decides (told row e (right_number r)) (right_record public e r true ∈ S.rights)

module _ {L : Lists} {s : RunState} (g : Goes L s) where
  abbrev S : State
  S = state_of L s

  abbrev B : State
  B = bare L S

  -- what carries such a row along the entities tells what everyone holds by it
  pub carries_from : (given row : List RightSet) → Given S given → Says row (Carried (Within L.entities) (told given) 96) → Carries L S row
  carries_from given row h c = record {
    sound = λ e r l t. let k = (c e (right_number r) l).0 t in (k.from, k.over, (h k.from r k.small).0 k.has);
    full = λ e d r l w m.
        let d_small = stands_small g.ran.sound d (place_stands L.entities w) in
        inr ((c e (right_number r) l).1 (record { from = d; small = d_small; over = w; has = (h d r d_small).1 m }));
  }

  -- a record of the state is the catalogue's, or gives everyone its right with the option
  record_from : {x : RightRecord} → x ∈ S.rights → (x ∈ L.rights) ⊎ (right_record public x.entity x.right true ∈ S.rights)
  record_from {x} m = ⊎_elim
      (λ n. let o = g.once.opened x (first_in (vec_items s.grants) _ n) in inr (subst (λ y. y ∈ S.rights) (sym (opened x o.principal o.option)) m))
      (λ n. inl n)
      (from_before (vec_items s.grants) L.rights m)

  in_bare : {a q : ℕ} → InRole L S a q → InRole L B a q
  in_bare (as_anyone b) = as_anyone b
  in_bare (as_member m b) = as_member m b

  bare_knows : Knows B S
  bare_knows = record { rights = λ x m. last_in (vec_items s.grants) L.rights m; members = λ x m. m }

  module _ (carried given : List RightSet) (c : Carries L S carried) (h : Given S given) where
    has_split : {q e : ℕ} {r : Right} → e < 96 → Has L S q e r → Has L B q e r ⊎ Has L B public e r ⊎ (told carried e (right_number r) ≡ true)
    has_split {q} {e} {r} l (by_record {d = d} w m) = ⊎_elim
        (λ n. inl (by_record w n))
        (λ n. inr (⊎_elim (λ k. inl (by_record w k)) (λ t. inr t) (c.full e d r l w n)))
        (record_from m)
    has_split l (Has.by_owning w o) = inl (Has.by_owning w o)

    can_split : {q e : ℕ} {r : Right} → e < 96 → CanGrant L S q e r → CanGrant L B q e r ⊎ (told given e (right_number r) ≡ true)
    can_split {e = e} {r} l (by_option m) = ⊎_elim (λ n. inl (by_option n)) (λ n. inr ((h e r l).1 n)) (record_from m)
    can_split l (CanGrant.by_owning w o) = inl (CanGrant.by_owning w o)

    holds_split : {a e : ℕ} {r : Right} → e < 96 → Holds L S a e r → Holds L B a e r ⊎ (told carried e (right_number r) ≡ true)
    holds_split {a} l (Holds.itself k) =
        ⊎_elim (λ n. inl (Holds.itself n)) (λ n. ⊎_elim (λ p. inl (Holds.in_role (public_in L g.ran.sound B a) p)) (λ t. inr t) n) (has_split l k)
    holds_split {a} l (Holds.in_role i k) =
        ⊎_elim (λ n. inl (Holds.in_role (in_bare i) n)) (λ n. ⊎_elim (λ p. inl (Holds.in_role (public_in L g.ran.sound B a) p)) (λ t. inr t) n) (has_split l k)

    may_split : {a e : ℕ} {r : Right} → e < 96 → MayGrant L S a e r → MayGrant L B a e r ⊎ (told given e (right_number r) ≡ true)
    may_split l (MayGrant.itself k) = ⊎_elim (λ n. inl (MayGrant.itself n)) (λ t. inr t) (can_split l k)
    may_split l (MayGrant.in_role i k) = ⊎_elim (λ n. inl (MayGrant.in_role (in_bare i) n)) (λ t. inr t) (can_split l k)

    -- the rows by the catalogue's rights, united with those of everyone
    pub rowed_united : {a : ℕ} {held granted all may : List RightSet} → Rowed L B a held granted
        → ((e k : ℕ) → e < 96 → told all e k ≡ (told held e k || told carried e k))
        → ((e k : ℕ) → e < 96 → told may e k ≡ (told granted e k || told given e k)) → Rowed L S a all may
    rowed_united {a} w u v = record {
      holds = λ e r l. (
        λ t. ⊎_elim (λ b. holds_known bare_knows ((w.holds e r l).0 b)) (λ b. let (d, over, m) = c.sound e r l b in Holds.in_role (public_in L g.ran.sound S a) (by_record over m))
            (or_cases _ _ (sym (u e (right_number r) l) ∙ t)),
        λ k. u e (right_number r) l ∙ ⊎_elim (λ b. or_left _ _ ((w.holds e r l).1 b)) (λ t. or_right _ _ t) (holds_split l k),
      );
      grants = λ e r l. (
        λ t. ⊎_elim (λ b. may_known bare_knows ((w.grants e r l).0 b)) (λ b. MayGrant.in_role (public_in L g.ran.sound S a) (by_option ((h e r l).0 b)))
            (or_cases _ _ (sym (v e (right_number r) l) ∙ t)),
        λ k. v e (right_number r) l ∙ ⊎_elim (λ b. or_left _ _ ((w.grants e r l).1 b)) (λ t. or_right _ _ t) (may_split l k),
      );
    }
