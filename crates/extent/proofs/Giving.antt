-- Everyone is given one right more, or put into one role more.
use Rattle.std.proofs.Common.{◌≡◌, ℕ, ◌+◌, ◌<◌, Bool, true, false, ◌&&◌, ◌||◌, eqb, ltb, ◌↔◌, ◌⊎◌, List, ◌∷◌, Decides, sym, ap, refl, ◌∙◌, inl, inr, ⊎_elim, arith}
use mathlib.Core.List.Memᴰ
use Rattle.std.proofs.lemmas.Bool.{and_parts, and_from, eqb-true, eq-eqb, or_cases, or_left, or_right, both_ways}
use Rattle.std.proofs.lemmas.Bool.Decides.{nat_tests}
use Rattle.access.specs.declared.rights.Right.{Right}
use Rattle.access.specs.declared.rights.RightRecord.{RightRecord}
use Rattle.access.specs.declared.code.Action.TheVariants.{Grant}
use Rattle.access.specs.Lists.{◌∈◌, Lists, public}
use Rattle.access.specs.Numbers.{right_number}
use Rattle.access.specs.Orders.{Within}
use Rattle.access.proofs.NumberLaws.{same_right}
use Rattle.catalogue.specs.Sound.{Sound}
use Rattle.grid.specs.Grids.{noted}
use Rattle.lookup.proofs.Telling.{one_more as told_more}
use Rattle.runs.specs.declared.steps.Step.TheVariants.{Grant as Grants}
use Rattle.runs.specs.Standing.{Stands}
use Rattle.runs.specs.States.{State, done}
use Rattle.runs.specs.Rights.{right_record}
use Rattle.runs.specs.Saturated.{Rule}
use Rattle.runs.specs.Limits.{one_more}
use Rattle.runs.proofs.Covering.{every_more}
use Rattle.runs.proofs.RightLaws.{holds_more, may_more}
use Rattle.runs.proofs.Growing.{part_trans, after_grows}
use Rattle.runs.proofs.Realizing.{rules_are_steps}
use Rattle.holdings.specs.declared.tables.Holdings.{Holdings}
use Rattle.holdings.specs.Told.{Told}
use Rattle.extent.specs.declared.extents.Extent.{Extent}
use Rattle.extent.specs.Shows.{Shows, Came}
use Rattle.extent.proofs.Recorded.{holds_given, may_given, given_holds, given_may}

module _ {P : Type 0} (b old : Bool) (m : b ≡ true → P) (f : P → b ≡ true) where
  -- what is so before, or by what is new, as a test
  pub joined_to : {Q R H : Type 0} (p : Bool) → p ≡ (old || b) → (Q → R ⊎ P) → (R → Q) → (P → Q) → R ↔ (H ⊎ (old ≡ true)) → Q ↔ (H ⊎ (p ≡ true))
  joined_to p g split first second i = (
    λ q. ⊎_elim (λ x. ⊎_elim (λ z. inl z) (λ z. inr (g ∙ or_left _ _ z)) (i.0 x)) (λ x. inr (g ∙ or_right _ _ (f x))) (split q),
    λ u. ⊎_elim (λ z. first (i.1 (inl z))) (λ z. ⊎_elim (λ x. first (i.1 (inr x))) (λ x. second (m x)) (or_cases old b (sym g ∙ z))) u,
  )

module _ {L : Lists} {h : Holdings} {e : Extent} (s : Sound L) (t : Told L h) (c : Came L e) (d k : ℕ) (new : Right) (n : right_number new ≡ k) (small : k < 7) where
  abbrev Given : State
  Given = done c.state 0 (Grant (right_record public d new true))

  -- the new right is that of the number, on the entity
  is_new : (y : ℕ) (r : Right) → Decides ((eqb (right_number r) k && ltb (right_number r) 7) && eqb y d) (right_record public y r true ≡ right_record public d new true)
  is_new y r = (
    λ b. let (u, v) = and_parts _ _ b in
        let (i, _) = and_parts _ _ u in
        ap (λ x. right_record public x r true) (eqb-true y d v) ∙ ap (λ x. right_record public d x true) (same_right r new (eqb-true _ _ i ∙ sym n)),
    λ g. let i : right_number r ≡ right_number new = ap (λ (x : RightRecord). right_number x.right) g in
        let j : y ≡ d = ap (λ (x : RightRecord). x.entity) g in
        grind (arith, nat_tests, i, j, n, small),
  )

  new_number : (r : Right) → r ≡ new → (eqb (right_number r) k && ltb (right_number r) 7) ≡ true
  new_number r g = let i : right_number r ≡ right_number new = ap right_number g in grind (arith, nat_tests, i, n, small)

  old_number : (r : Right) → (eqb (right_number r) k && ltb (right_number r) 7) ≡ true → r ≡ new
  old_number r b = same_right r new (eqb-true _ _ (and_parts _ _ b).0 ∙ sym n)

  pub give_came : noted e.given.rows k d ≡ false → Stands L d → ((F : State) → Shows L e F → Rule L F (done F 0 (Grant (right_record public d new true))))
      → (given holds grants : List ℕ)
      → ((z y : ℕ) → noted given z y ≡ (noted e.given.rows z y || ((eqb z k && ltb z 7) && eqb y d)))
      → ((z y : ℕ) → noted holds z y ≡ (noted e.holds.rows z y || ((eqb z k && ltb z 7) && noted h.within.rows d y)))
      → ((z y : ℕ) → noted grants z y ≡ (noted e.grants.rows z y || ((eqb z k && ltb z 7) && eqb y d)))
      → Came L record { opener = e.opener; acted = e.acted; joined = e.joined; places = e.places; given = record { rows = given }; holds = record { rows = holds }; grants = record { rows = grants }; entrants = e.entrants; entered = e.entered; count = e.count + 1 }
  give_came fresh stands r given holds grants of held may = record {
    state = Given;
    opener = c.opener;
    realized = rules_are_steps L s e.opener c.opener c.state Given c.realized (r c.state c.shows);
    begun = part_trans c.begun (after_grows c.state (Grants 0 (right_record public d new true)));
    shows = record {
      acted = c.shows.acted;
      given = λ y q. told_more _ _ _ (of (right_number q) y) (is_new y q) (c.shows.given y q);
      rights = every_more (λ g. (g ∈ L.rights) ⊎ (g ≡ right_record public g.entity g.right true)) (right_record public d new true) c.shows.rights (inr refl);
      members = c.shows.members;
      joined = c.shows.joined;
      entrants = c.shows.entrants;
      entered = c.shows.entered;
      places = c.shows.places;
      holds = λ a y q j. joined_to {P = (q ≡ new) × Within L.entities y d} _ _
          (λ b. let (u, v) = and_parts _ _ b in (old_number q u, (t.within d y).0 v))
          (λ (u, v). and_from _ _ (new_number q u) ((t.within d y).1 v))
          _ (held (right_number q) y) (holds_given s c.state d new) (holds_more (after_grows c.state (Grants 0 (right_record public d new true)))) (λ (u, v). given_holds s c.state d new u v) (c.shows.holds a y q j);
      grants = λ a y q j. joined_to {P = (q ≡ new) × (y ≡ d)} _ _
          (λ b. let (u, v) = and_parts _ _ b in (old_number q u, eqb-true y d v))
          (λ (u, v). and_from _ _ (new_number q u) (eq-eqb y d v))
          _ (may (right_number q) y) (may_given s c.state d new) (may_more (after_grows c.state (Grants 0 (right_record public d new true)))) (λ (u, v). given_may s c.state d new u v) (c.shows.grants a y q j);
    };
    counted = record {
      rights = right_record public d new true ∷ c.counted.rights;
      members = c.counted.members;
      acted = c.counted.acted;
      entered = c.counted.entered;
      distinct_rights = one_more c.counted.distinct_rights
          (λ m. both_ways _ fresh (ap (λ i. noted e.given.rows i d) (sym n) ∙ (c.shows.given d new).1 (c.counted.among_rights _ m)));
      distinct_members = c.counted.distinct_members;
      opened = every_more _ _ c.counted.opened (record { principal = refl; stands = stands; option = refl });
      joins = c.counted.joins;
      among_rights = every_more (λ g. g ∈ Given.rights) _ (λ g m. Memᴰ.tail (c.counted.among_rights g m)) (Memᴰ.head refl);
      among_joined = c.counted.among_joined;
      few = omega (arith, c.counted.few);
    };
  }
