-- Every account is put into one role more.
use Rattle.std.proofs.Common.{◌≡◌, ℕ, zero, suc, ◌+◌, ◌<◌, true, false, ◌&&◌, ◌||◌, eqb, ltb, List, [], ◌∷◌, sym, ap, refl, ◌∙◌, subst, inl, inr, ⊎_elim, arith}
use mathlib.Core.List.Memᴰ
use Rattle.std.proofs.lemmas.Bool.{and_parts, and_from, eqb-true, eq-eqb, or_cases, or_left, or_right, both_ways, cases_Bool, cases_lt}
use Rattle.std.proofs.lemmas.Bool.Decides.{nat_tests}
use Rattle.access.specs.declared.entities.Kind.TheVariants.{Account, Role}
use Rattle.access.specs.declared.rights.Right.TheVariants.{Alter}
use Rattle.access.specs.declared.roles.Member.{Member}
use Rattle.access.specs.Bits.{bit}
use Rattle.access.specs.Lists.{◌∈◌, Lists}
use Rattle.access.specs.Numbers.{right_number}
use Rattle.access.proofs.NumberLaws.{right_small}
use Rattle.catalogue.specs.Sound.{Sound}
use Rattle.grid.specs.Grids.{noted}
use Rattle.runs.specs.Standing.{Is}
use Rattle.runs.specs.States.{State, Part}
use Rattle.runs.specs.Rights.{member_record, Holds}
use Rattle.runs.specs.Saturated.{Rule, Realized}
use Rattle.runs.specs.Limits.{one_more}
use Rattle.runs.proofs.Covering.{every_more}
use Rattle.runs.proofs.RightLaws.{holds_more, may_more}
use Rattle.runs.proofs.Growing.{part_trans}
use Rattle.runs.proofs.Realizing.{rules_are_steps}
use Rattle.fitting.proofs.Smalls.{is_small}
use Rattle.holdings.specs.declared.tables.Holdings.{Holdings}
use Rattle.holdings.specs.Rows.{has, can}
use Rattle.holdings.specs.Told.{Told, HasBelow, CanBelow}
use Rattle.extent.specs.declared.extents.Extent.{Extent}
use Rattle.extent.specs.Shows.{Shows, Came}
use Rattle.extent.proofs.Giving.{joined_to}
use Rattle.extent.proofs.Recorded.{put, putting, put_old, put_new, put_from, holds_joined, may_joined, joined_holds, joined_may}

-- the numbers of a set below n, as a list
record Listed (w n : ℕ) : Type 0 where
  items : List ℕ
  all : (v : ℕ) → v < n → bit w v ≡ true → v ∈ items
  only : (v : ℕ) → v ∈ items → bit w v ≡ true

listed_with : {w n : ℕ} → bit w n ≡ true → Listed w n → Listed w (suc n)
listed_with {w} {n} b k = record {
  items = n ∷ k.items;
  all = λ v l t. ⊎_elim (λ h. Memᴰ.tail (k.all v h t)) (λ h. Memᴰ.head (omega arith)) (cases_lt v n);
  only = every_more (λ v. bit w v ≡ true) n k.only b;
}

listed_without : {w n : ℕ} → bit w n ≡ false → Listed w n → Listed w (suc n)
listed_without {w} {n} b k = record {
  items = k.items;
  all = λ v l t. ⊎_elim (λ h. k.all v h t) (λ h. let e : n ≡ v = omega arith in absurd (both_ways _ b (ap (bit w) e ∙ t))) (cases_lt v n);
  only = k.only;
}

listed : (w n : ℕ) → Listed w n
listed w zero = record { items = []; all = λ v l t. absurd (omega arith); only = λ v m. elim m [ ] }
listed w (suc n) = ⊎_elim (λ b. listed_with b (listed w n)) (λ b. listed_without b (listed w n)) (cases_Bool (bit w n))

module _ {L : Lists} {h : Holdings} {e : Extent} (s : Sound L) (t : Told L h) (c : Came L e) (q : ℕ) (role : Is L Role q) where
  abbrev Joined : List ℕ → State
  Joined vs = putting vs q c.state

  part_joined : (vs : List ℕ) → Part c.state (Joined vs)
  part_joined vs = record { acted = λ x m. m; rights = λ x m. m; members = put_old vs q; planted = λ x m. m; entered = λ x m. m }

  -- one account after the other
  realized_joined : {a : ℕ} → a ∈ c.state.acted → Holds L c.state a q Alter → (vs : List ℕ) → ((v : ℕ) → v ∈ vs → Is L Account v) → Realized L e.opener (Joined vs)
  realized_joined m k [] f = c.realized
  realized_joined {a} m k (v ∷ vs) f =
      rules_are_steps L s e.opener c.opener (Joined vs) (Joined (v ∷ vs)) (realized_joined m k vs (λ u n. f u (Memᴰ.tail n)))
      (Rule.join m role (f v (Memᴰ.head refl)) (holds_more (part_joined vs) k))

  abbrev accounts : Listed h.accounts 96
  accounts = listed h.accounts 96

  account_of : (v : ℕ) → v ∈ accounts.items → Is L Account v
  account_of v m = (t.accounts v).0 (accounts.only v m)

  of_account : (v : ℕ) → Is L Account v → v ∈ accounts.items
  of_account v i = accounts.all v (is_small s i) ((t.accounts v).1 i)

  abbrev All : State
  All = Joined accounts.items

  pub join_came : bit e.joined q ≡ false → ((F : State) → Shows L e F → (a : ℕ) × (a ∈ F.acted) × Holds L F a q Alter)
      → (w : ℕ) (holds grants : List ℕ)
      → ((y : ℕ) → bit w y ≡ (bit e.joined y || eqb y q))
      → ((k y : ℕ) → noted holds k y ≡ (noted e.holds.rows k y || (ltb k 7 && has h.of_roles q k y)))
      → ((k y : ℕ) → noted grants k y ≡ (noted e.grants.rows k y || (ltb k 7 && can h.of_roles q k y)))
      → Came L record { opener = e.opener; acted = e.acted; joined = w; places = e.places; given = e.given; holds = record { rows = holds }; grants = record { rows = grants }; entrants = e.entrants; entered = e.entered; count = e.count + 1 }
  join_came fresh actor w holds grants of held may = let (a, m, k) = actor c.state c.shows in record {
    state = All;
    opener = c.opener;
    realized = realized_joined m k accounts.items account_of;
    begun = part_trans c.begun (part_joined accounts.items);
    shows = record {
      acted = c.shows.acted;
      given = c.shows.given;
      rights = c.shows.rights;
      members = λ m k. ⊎_elim (λ n. ⊎_elim (λ i. inl i) (λ j. inr (of m.role ∙ or_left _ _ j)) (c.shows.members m n)) (λ i. inr (of m.role ∙ or_right _ _ (eq-eqb m.role q i)))
          (put_from accounts.items q k);
      joined = λ v p b i. ⊎_elim
          (λ k. put_old accounts.items q _ (c.shows.joined v p k i))
          (λ k. subst (λ n. member_record v n ∈ put accounts.items q c.state.members) (sym (eqb-true p q k)) (put_new accounts.items q c.state.members (of_account v i)))
          (or_cases _ _ (sym (of p) ∙ b));
      entrants = c.shows.entrants;
      entered = c.shows.entered;
      places = c.shows.places;
      holds = λ a y r j. joined_to {P = HasBelow L q y r} _ _
          (λ b. (t.role_holds q y r role).0 (and_parts _ _ b).1)
          (λ b. and_from _ _ (let l = right_small r in grind (arith, nat_tests, l)) ((t.role_holds q y r role).1 b))
          _ (held (right_number r) y) (holds_joined s c.state c.shows.rights c.begun.rights accounts.items q) (holds_more (part_joined accounts.items))
          (joined_holds s c.state c.shows.rights c.begun.rights accounts.items q (of_account a j)) (c.shows.holds a y r j);
      grants = λ a y r j. joined_to {P = CanBelow L q y r} _ _
          (λ b. (t.role_grants q y r role).0 (and_parts _ _ b).1)
          (λ b. and_from _ _ (let l = right_small r in grind (arith, nat_tests, l)) ((t.role_grants q y r role).1 b))
          _ (may (right_number r) y) (may_joined s c.state c.shows.rights c.begun.rights accounts.items q) (may_more (part_joined accounts.items))
          (joined_may s c.state c.shows.rights c.begun.rights accounts.items q (of_account a j)) (c.shows.grants a y r j);
    };
    counted = record {
      rights = c.counted.rights;
      members = member_record e.opener q ∷ c.counted.members;
      acted = c.counted.acted;
      entered = c.counted.entered;
      distinct_rights = c.counted.distinct_rights;
      distinct_members = one_more c.counted.distinct_members (λ m. both_ways _ fresh (c.counted.among_joined _ m));
      opened = c.counted.opened;
      joins = every_more _ _ c.counted.joins (record { account = c.opener; role = role });
      among_rights = c.counted.among_rights;
      among_joined = every_more (λ (m : Member). bit w m.role ≡ true) _ (λ m n. of m.role ∙ or_left _ _ (c.counted.among_joined m n)) (of q ∙ or_right _ _ (eq-eqb q q refl));
      few = omega (arith, c.counted.few);
    };
  }
