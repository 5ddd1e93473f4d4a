-- An extent at its beginning, and one to which nothing is left to add.
use Rattle.std.proofs.Common.{◌≡◌, ℕ, true, false, eqb, ◌⊎◌, List, [], sym, refl, ◌∙◌, inl, inr, ⊎_elim, arith}
use mathlib.Core.List.Memᴰ
use Rattle.std.proofs.lemmas.Bool.{both_ways, eqb-true, eq-eqb}
use Rattle.access.specs.declared.entities.Kind.TheVariants.{Account}
use Rattle.access.specs.declared.rights.Right.{Right}
use Rattle.access.specs.declared.code.Object.{Object}
use Rattle.access.specs.declared.code.Action.{Action}
use Rattle.access.specs.declared.code.Action.TheVariants as action
use Rattle.access.specs.declared.code.Line.{Line}
use Rattle.access.specs.Bits.{bit}
use Rattle.access.specs.Lists.{◌∈◌, Lists}
use Rattle.access.specs.Numbers.{right_number}
use Rattle.access.specs.Places.{place_of}
use Rattle.catalogue.specs.Sound.{Sound}
use Rattle.grid.specs.Grids.{noted}
use Rattle.lookup.proofs.Telling.{in_sub, none_told}
use Rattle.runs.specs.Standing.{Is, OneOwner, entry_right}
use Rattle.runs.specs.States.{State, Part, start, pair, done}
use Rattle.runs.specs.Rights.{Holds}
use Rattle.runs.specs.Runs.{MayDo, by_right, by_owner, ends}
use Rattle.runs.specs.Saturated.{Rule}
use Rattle.runs.specs.Limits.{none, one_more}
use Rattle.runs.proofs.Grounds.{calls, runners, IsCall, to}
use Rattle.runs.proofs.Growing.{part_same}
use Rattle.runs.proofs.Realizing.{saturation_tells, worker_account}
use Rattle.holdings.specs.declared.tables.Holdings.{Holdings}
use Rattle.holdings.specs.Told.{Told, at_rest}
use Rattle.extent.specs.declared.extents.Extent.{Extent}
use Rattle.extent.specs.Tests.{held, entry}
use Rattle.extent.specs.Shows.{Came}
use Rattle.extent.specs.Turns.{Begun, Followed, Lent}
use Rattle.extent.specs.Reached.{Reached}
use Rattle.extent.proofs.Acting.{holds_like, may_like}
use Rattle.extent.proofs.Counting.{acted_account, entered_is}
use Rattle.extent.proofs.Holding.{holds_held, grants_may}
use Rattle.fitting.proofs.Smalls.{is_small}
use Rattle.access.proofs.NumberLaws.{right_small}

module _ {L : Lists} {h : Holdings} (s : Sound L) (t : Told L h) {k : ℕ} (i : Is L Account k) where
  -- the state in which a session is opened
  pub open_came : (acted : ℕ) (holds grants entrants entered : List ℕ) (none_joined none_placed : ℕ)
      → ((y : ℕ) → bit acted y ≡ eqb y k) → ((y : ℕ) → bit none_joined y ≡ false) → ((y : ℕ) → bit none_placed y ≡ false)
      → ((z y : ℕ) → noted holds z y ≡ false) → ((z y : ℕ) → noted grants z y ≡ false)
      → ((z y : ℕ) → noted entrants z y ≡ false) → ((z y : ℕ) → noted entered z y ≡ false)
      → Came L record { opener = k; acted = acted; joined = none_joined; places = none_placed; given = h.given; holds = record { rows = holds }; grants = record { rows = grants }; entrants = record { rows = entrants }; entered = record { rows = entered }; count = 0 }
  open_came acted holds grants entrants entered joined placed here j p a b c d = record {
    state = start L k;
    opener = i;
    realized = record { steps = []; final = start L k; run = ends; part = part_same (start L k) };
    begun = part_same (start L k);
    shows = record {
      acted = λ v. (λ m. Memᴰ.head (eqb-true v k (sym (here v) ∙ m)), λ m. here v ∙ eq-eqb v k (Memᴰ.eq_of_singleton m));
      given = t.given;
      rights = λ x m. inl m;
      members = λ x m. inl m;
      joined = λ v q m _. absurd (both_ways _ (j q) m);
      entrants = λ x v _. none_told _ (c _ v);
      entered = λ x v _. none_told _ (d _ _);
      places = λ e. (λ m. absurd (both_ways _ (p e) m), λ (n, m, _). absurd (Memᴰ.not-nil m));
      holds = λ v e r _. holds_like {F = at_rest L} {G = start L k} (record { rights = λ x m. m; members = λ x m. m }) (record { rights = λ x m. m; members = λ x m. m })
          (λ m. inl m, λ m. ⊎_elim (λ n. n) (λ n. absurd (both_ways _ (a _ e) n)) m);
      grants = λ v e r _. may_like {F = at_rest L} {G = start L k} (record { rights = λ x m. m; members = λ x m. m }) (record { rights = λ x m. m; members = λ x m. m })
          (λ m. inl m, λ m. ⊎_elim (λ n. n) (λ n. absurd (both_ways _ (b _ e) n)) m);
    };
    counted = record {
      rights = [];
      members = [];
      acted = one_more none (λ m. Memᴰ.not-nil m);
      entered = none;
      distinct_rights = none;
      distinct_members = none;
      opened = λ x m. absurd (Memᴰ.not-nil m);
      joins = λ x m. absurd (Memᴰ.not-nil m);
      among_rights = λ x m. absurd (Memᴰ.not-nil m);
      among_joined = λ x m. absurd (Memᴰ.not-nil m);
      few = omega arith;
    };
  }

module _ {L : Lists} {h : Holdings} {e : Extent} (s : Sound L) (t : Told L h) (c : Came L e)
    (lent : Lent L h e e) (turned : (a : ℕ) → Is L Account a → bit e.acted a ≡ true → Begun L h a e e)
    (followed : (l : Line) → l ∈ L.lines → Followed L h l e e) where
  begun : (a : ℕ) → a ∈ c.state.acted → Begun L h a e e
  begun a m = turned a (acted_account s c a m) ((c.shows.acted a).1 m)

  held_by : {a d : ℕ} (r : Right) → a ∈ c.state.acted → Holds L c.state a d r → held h e a (right_number r) d ≡ true
  held_by {a} {d} r m k = holds_held t c.shows (acted_account s c a m) d r k

  -- an entered pair is in the table of accounts, and what is there is entered
  entry_of : {x : Object} {v : ℕ} → pair x v ∈ c.state.entered → entry e x v ≡ true
  entry_of {x} {v} m = (c.shows.entered x v (is_small s (entered_is s c _ m).1)).1 m

  acts_already : {v : ℕ} → bit e.acted v ≡ true → v ∈ c.state.acted
  acts_already {v} b = (c.shows.acted v).0 b

  enters : (y : Object) (w : ℕ) → Is L Account w → entry e y w ≡ true → Part (done c.state w (action.Call y)) c.state
  enters y w i b = record {
    acted = λ x n. n;
    rights = λ x n. n;
    members = λ x n. n;
    planted = λ x n. n;
    entered = in_sub ((c.shows.entered y w (is_small s i)).0 b);
  }

  follows : {w : ℕ} {x : Object} {d : Action} → Is L Account w → IsCall L d
      → ((y : Object) → d ≡ action.Call y → (held h e w (right_number (entry_right y)) (place_of y) ≡ true) ⊎ OneOwner L x y → entry e y w ≡ true)
      → MayDo L c.state x w d → Part (done c.state w d) c.state
  follows {w} i (to {y = y} o) f (by_right k) = enters y w i (f y refl (inl (holds_held t c.shows i (place_of y) (entry_right y) k)))
  follows {w} i (to {y = y} o) f (by_owner k) = enters y w i (f y refl (inr k))

  shut : (G : State) → Rule L c.state G → Part G c.state
  shut G (Rule.switch {a = a} {v = v} m j k) = record {
    acted = in_sub (acts_already ((begun a m).switch v j (held_by _ m k)));
    rights = λ x n. n;
    members = λ x n. n;
    planted = λ x n. n;
    entered = λ x n. n;
  }
  shut G (Rule.grant {a = a} {e = d} {r = r} m stands k) = record {
    acted = λ x n. n;
    rights = in_sub ((c.shows.given d r).0 ((begun a m).grant (right_number r) d (right_small r) (grants_may t c.shows (acted_account s c a m) d r k)));
    members = λ x n. n;
    planted = λ x n. n;
    entered = λ x n. n;
  }
  shut G (Rule.join {a = a} {q = q} {v = v} m role j k) = record {
    acted = λ x n. n;
    rights = λ x n. n;
    members = in_sub (c.shows.joined v q ((begun a m).join q role (held_by _ m k)) j);
    planted = λ x n. n;
    entered = λ x n. n;
  }
  shut G (Rule.call {a = a} {x = x} m o k) = enters x a (acted_account s c a m) ((begun a m).call x o (held_by _ m k))
  shut G (Rule.follow {v = v} {l = l} m n d) =
      let i = (entered_is s c _ m).1 in
      follows (worker_account L s i (runners L s l n)) (calls L s l n) (λ y f. (followed l n).entered v y i (entry_of m) f) d
  shut G (Rule.taken {v = v} {x = x} m p) = record {
    acted = in_sub (acts_already ((begun p.planter p.acted).taken x v (entered_is s c _ m).1 (entry_of m) (held_by _ p.acted p.holds)));
    rights = λ x n. n;
    members = λ x n. n;
    planted = λ x n. n;
    entered = λ x n. n;
  }
  shut G (Rule.lent {v = v} {u = u} {x = x} {y = y} m p a o one) =
      enters y u (acted_account s c u a)
      (lent.entered _ u y (record { account = p.planter; acted = (c.shows.acted _).1 p.acted; holds = held_by _ p.acted p.holds })
      ((c.shows.places _).1 (pair x v, m, refl)) ((c.shows.acted u).1 a) o (record { owner = one.owner; first = one.first; second = one.second }))

  pub closed_reached : Reached L e.opener e
  closed_reached = record {
    state = c.state;
    shows = c.shows;
    accounts = acted_account s c;
    tells = saturation_tells L s e.opener c.state (record { begun = c.begun; shut = shut }) c.realized;
  }
