-- One account more is acted as, and one more entered an object.
use Rattle.std.proofs.Common.{◌≡◌, ℕ, ◌+◌, ◌*◌, ◌<◌, Bool, true, false, ◌&&◌, ◌||◌, eqb, ltb, ◌↔◌, ◌⊎◌, List, Decides, sym, ap, refl, ◌∙◌, inl, inr, ⊎_elim, arith}
use mathlib.Core.List.Memᴰ
use Rattle.std.proofs.lemmas.Bool.{and_parts, eqb-true, eq-eqb, or_cases, or_left, or_right, both_ways}
use Rattle.std.proofs.lemmas.Bool.Decides.{nat_tests}
use Rattle.access.specs.declared.entities.Kind.TheVariants.{Account}
use Rattle.access.specs.declared.rights.Right.{Right}
use Rattle.access.specs.declared.code.Object.{Object}
use Rattle.access.specs.declared.code.Action.TheVariants.{Call}
use Rattle.access.specs.Bits.{bit}
use Rattle.access.specs.Lists.{◌∈◌, Lists}
use Rattle.access.specs.Places.{place_of}
use Rattle.catalogue.specs.Sound.{Sound}
use Rattle.grid.specs.Grids.{noted}
use Rattle.lookup.specs.Tables.{sort_number, slot_of}
use Rattle.lookup.proofs.Slots.{entry_told, same_object, sort_small, slot_sort, slot_small}
use Rattle.lookup.proofs.Telling.{one_more as told_more}
use Rattle.runs.specs.declared.steps.Entry.{Entry}
use Rattle.runs.specs.declared.steps.Step.TheVariants.{Switch, Call as Calls}
use Rattle.runs.specs.Standing.{Is}
use Rattle.runs.specs.States.{State, pair, acting, done}
use Rattle.runs.specs.Rights.{Holds, MayGrant}
use Rattle.runs.specs.Saturated.{Rule}
use Rattle.runs.specs.Limits.{one_more}
use Rattle.runs.proofs.RightLaws.{Knows, holds_known, may_known}
use Rattle.runs.proofs.Growing.{part_trans, after_grows}
use Rattle.runs.proofs.Realizing.{rules_are_steps}
use Rattle.extent.specs.declared.extents.Extent.{Extent}
use Rattle.extent.specs.Shows.{Shows, Came}

-- states with the same records
module _ {L : Lists} {F G : State} (p : Knows F G) (q : Knows G F) {a e : ℕ} {r : Right} {P : Type 0} where
  pub holds_like : Holds L F a e r ↔ P → Holds L G a e r ↔ P
  holds_like h = (λ k. h.0 (holds_known q k), λ k. holds_known p (h.1 k))

  pub may_like : MayGrant L F a e r ↔ P → MayGrant L G a e r ↔ P
  may_like h = (λ k. h.0 (may_known q k), λ k. may_known p (h.1 k))

module _ {L : Lists} {e : Extent} (s : Sound L) (c : Came L e) (v : ℕ) where
  abbrev Acted : State
  Acted = acting c.state v

  -- an account more is acted as
  pub act_came : bit e.acted v ≡ false → Is L Account v → ((F : State) → Shows L e F → Rule L F (acting F v))
      → (w : ℕ) → ((y : ℕ) → bit w y ≡ (bit e.acted y || eqb y v))
      → Came L record { opener = e.opener; acted = w; joined = e.joined; places = e.places; given = e.given; holds = e.holds; grants = e.grants; entrants = e.entrants; entered = e.entered; count = e.count + 1 }
  act_came new i r w told = record {
    state = Acted;
    opener = c.opener;
    realized = rules_are_steps L s e.opener c.opener c.state Acted c.realized (r c.state c.shows);
    begun = part_trans c.begun (after_grows c.state (Switch 0 v));
    shows = record {
      acted = λ y. told_more (bit e.acted y) (eqb y v) (bit w y) (told y) (eqb-true y v, eq-eqb y v) (c.shows.acted y);
      given = c.shows.given;
      rights = c.shows.rights;
      members = c.shows.members;
      joined = c.shows.joined;
      entrants = c.shows.entrants;
      entered = c.shows.entered;
      places = c.shows.places;
      holds = λ a d q j. holds_like {F = c.state} {G = Acted} (record { rights = λ x m. m; members = λ x m. m }) (record { rights = λ x m. m; members = λ x m. m }) (c.shows.holds a d q j);
      grants = λ a d q j. may_like {F = c.state} {G = Acted} (record { rights = λ x m. m; members = λ x m. m }) (record { rights = λ x m. m; members = λ x m. m }) (c.shows.grants a d q j);
    };
    counted = record {
      rights = c.counted.rights;
      members = c.counted.members;
      acted = one_more c.counted.acted (λ m. both_ways (bit e.acted v) new ((c.shows.acted v).1 m));
      entered = c.counted.entered;
      distinct_rights = c.counted.distinct_rights;
      distinct_members = c.counted.distinct_members;
      opened = c.counted.opened;
      joins = c.counted.joins;
      among_rights = c.counted.among_rights;
      among_joined = c.counted.among_joined;
      few = omega (arith, c.counted.few);
    };
  }

-- which entry the new one is, by the two tables
by_object : (y x : Object) (u v : ℕ) → place_of y < 96 → place_of x < 96 → Decides ((eqb (slot_of y) (slot_of x) && ltb (slot_of y) 480) && eqb u v) (pair y u ≡ pair x v)
by_object y x u v h l =
    let d = entry_told (pair y u) x v h l in
    let k = slot_small y h in
    (λ t. d.0 (grind (arith, nat_tests, t)), λ e. grind (arith, nat_tests, d.1 e, k))

by_account : (y x : Object) (u v : ℕ) → u < 96 → v < 96
    → Decides ((eqb (u + 96 * sort_number y) (v + 96 * sort_number x) && ltb (u + 96 * sort_number y) 480) && eqb (place_of y) (place_of x)) (pair y u ≡ pair x v)
by_account y x u v h l = (
  λ t. let (a, b) = and_parts _ _ t in
      let (n, _) = and_parts _ _ a in
      let i = eqb-true _ _ n in
      let k : sort_number y ≡ sort_number x = slot_sort u v (sort_number y) (sort_number x) h l i in
      let m : u ≡ v = omega (arith, i, k) in
      ap (λ z. pair z u) (same_object y x k (eqb-true _ _ b)) ∙ ap (pair x) m,
  λ e. let p : place_of y ≡ place_of x = ap (λ (n : Entry). place_of n.object) e in
      let k : sort_number y ≡ sort_number x = ap (λ (n : Entry). sort_number n.object) e in
      let m : u ≡ v = ap (λ (n : Entry). n.account) e in
      let i = sort_small y in
      grind (arith, nat_tests, p, k, m, i, h),
)

module _ {L : Lists} {e : Extent} (s : Sound L) (c : Came L e) (v : ℕ) (x : Object) where
  abbrev Entered : State
  Entered = done c.state v (Call x)

  -- where an account entered an object, by one entry more
  place_from : (d : ℕ) (n : Entry) → n ∈ Entered.entered → place_of n.object ≡ d → (bit e.places d ≡ true) ⊎ (d ≡ place_of x)
  place_from d n (Memᴰ.head g) p = inr (sym p ∙ ap (λ (m : Entry). place_of m.object) g)
  place_from d n (Memᴰ.tail m) p = inl ((c.shows.places d).1 (n, m, p))

  place_more : (d : ℕ) (b : Bool) → b ≡ (bit e.places d || eqb d (place_of x))
      → Decides b ((n : Entry) × (n ∈ Entered.entered) × (place_of n.object ≡ d))
  place_more d b t = (
    λ h. ⊎_elim (λ k. let (n, m, p) = (c.shows.places d).0 k in (n, Memᴰ.tail m, p)) (λ k. (pair x v, Memᴰ.head refl, sym (eqb-true d (place_of x) k)))
        (or_cases _ _ (sym t ∙ h)),
    λ (n, m, p). t ∙ ⊎_elim (or_left _ _) (λ k. or_right _ _ (eq-eqb d (place_of x) k)) (place_from d n m p),
  )

  -- an account more entered an object
  pub enter_came : place_of x < 96 → v < 96 → noted e.entered.rows (v + 96 * sort_number x) (place_of x) ≡ false
      → ((F : State) → Shows L e F → Rule L F (done F v (Call x)))
      → (w : ℕ) (entrants entered : List ℕ)
      → ((d : ℕ) → bit w d ≡ (bit e.places d || eqb d (place_of x)))
      → ((z y : ℕ) → noted entrants z y ≡ (noted e.entrants.rows z y || ((eqb z (slot_of x) && ltb z 480) && eqb y v)))
      → ((z y : ℕ) → noted entered z y ≡ (noted e.entered.rows z y || ((eqb z (v + 96 * sort_number x) && ltb z 480) && eqb y (place_of x))))
      → Came L record { opener = e.opener; acted = e.acted; joined = e.joined; places = w; given = e.given; holds = e.holds; grants = e.grants; entrants = record { rows = entrants }; entered = record { rows = entered }; count = e.count + 1 }
  enter_came small few new r w entrants entered at by of = record {
    state = Entered;
    opener = c.opener;
    realized = rules_are_steps L s e.opener c.opener c.state Entered c.realized (r c.state c.shows);
    begun = part_trans c.begun (after_grows c.state (Calls v x));
    shows = record {
      acted = c.shows.acted;
      given = c.shows.given;
      rights = c.shows.rights;
      members = c.shows.members;
      joined = c.shows.joined;
      entrants = λ y u l. told_more _ _ _ (by (slot_of y) u) (by_object y x u v l small) (c.shows.entrants y u l);
      entered = λ y u l. told_more _ _ _ (of (u + 96 * sort_number y) (place_of y)) (by_account y x u v l few) (c.shows.entered y u l);
      places = λ d. place_more d (bit w d) (at d);
      holds = λ a d q j. holds_like {F = c.state} {G = Entered} (record { rights = λ x m. m; members = λ x m. m }) (record { rights = λ x m. m; members = λ x m. m }) (c.shows.holds a d q j);
      grants = λ a d q j. may_like {F = c.state} {G = Entered} (record { rights = λ x m. m; members = λ x m. m }) (record { rights = λ x m. m; members = λ x m. m }) (c.shows.grants a d q j);
    };
    counted = record {
      rights = c.counted.rights;
      members = c.counted.members;
      acted = c.counted.acted;
      entered = one_more c.counted.entered (λ m. both_ways _ new ((c.shows.entered x v few).1 m));
      distinct_rights = c.counted.distinct_rights;
      distinct_members = c.counted.distinct_members;
      opened = c.counted.opened;
      joins = c.counted.joins;
      among_rights = c.counted.among_rights;
      among_joined = c.counted.among_joined;
      few = omega (arith, c.counted.few);
    };
  }
