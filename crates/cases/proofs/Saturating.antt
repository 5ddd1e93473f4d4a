-- The moves are the rules: a state that they leave as it is, is closed, and one that they come to is realized.
use Rattle.std.proofs.Common.{ℕ, zero, suc, Bool, true, false, not, T, eqb, ◌↔◌, List, [], ◌∷◌, map, refl, inl, inr}
use mathlib.Core.List.Memᴰ
use Rattle.std.proofs.Math.Dec.{T_not}
use Rattle.access.specs.declared.entities.Kind.TheVariants as kind
use Rattle.access.specs.declared.rights.Right.{Right}
use Rattle.access.specs.declared.rights.Right.TheVariants.{Alter, Impersonate}
use Rattle.access.specs.declared.code.Object.{Object}
use Rattle.access.specs.declared.code.Action.{Action}
use Rattle.access.specs.declared.code.Action.TheVariants as action
use Rattle.access.specs.Lists.{◌∈◌, Lists, public}
use Rattle.access.specs.Numbers.{rights}
use Rattle.access.specs.Places.{place_of}
use Rattle.catalogue.specs.Sound.{Sound}
use Rattle.runs.specs.declared.steps.Entry.{Entry}
use Rattle.runs.specs.Standing.{Is, entry_right}
use Rattle.runs.specs.States.{State, Part, start, pair, acting, done}
use Rattle.runs.specs.Rights.{right_record, member_record}
use Rattle.runs.specs.Runs.{worker, ends, Use, Hold}
use Rattle.runs.specs.Saturated.{Rule, Closed, Realized}
use Rattle.runs.specs.Laws.{Tells}
use Rattle.runs.proofs.RightLaws.{holds_stands}
use Rattle.runs.proofs.Growing.{part_same}
use Rattle.runs.proofs.Covering.{every_more}
use Rattle.access.proofs.NumberLaws.{right_listed}
use Rattle.runs.proofs.Realizing.{rules_are_steps, saturation_tells}
use Rattle.cases.proofs.Deciding.{or_else, any, every, each, numbers, are, objects, holdsᵇ, alike_record, alike_member, alike_entry, alike_line, Move, switching, granting, joining, calling, following, taking, lending, added, done_there, there, enteredᵇ, applies, actor_moves, entry_moves, moves, idle, move_by, move_all, sweeps, stop_or, closedᵇ, reached, solves, usesᵇ}
use Rattle.cases.proofs.TestLaws.{passes, passed, and_left, and_right, and_both, or_cases, Passing, any_some, some_any, every_at, in_each, in_map, entry_same, line_same, found, found_number, number_found, record_eq, member_eq, entry_eq, line_eq}
use Rattle.cases.proofs.Decided.{is_true, true_is, stands_in, in_are, object_true, true_object, in_objects, holds_true, true_holds, may_true, true_may, plant_true, true_plant, one_owner_true, true_one_owner, does_true, true_does}

-- what a move adds is there
act_there : (F : State) (v : ℕ) → T (any (eqb v) F.acted) → Part (acting F v) F
act_there F v h =
    record {
      acted = every_more (λ x. x ∈ F.acted) v (λ x m. m) (found_number v F.acted h);
      rights = λ x m. m;
      members = λ x m. m;
      planted = λ x m. m;
      entered = λ x m. m;
    }

do_there : (F : State) (w : ℕ) (t : Action) → T (done_there F w t) → Part (done F w t) F
do_there F w (action.Call y) h =
    record {
      acted = λ x m. m;
      rights = λ x m. m;
      members = λ x m. m;
      planted = λ x m. m;
      entered = every_more (λ x. x ∈ F.entered) (pair y w) (λ x m. m)
          (found alike_entry entry_eq (pair y w) F.entered h);
    }
do_there F w (action.Grant g) h =
    record {
      acted = λ x m. m;
      members = λ x m. m;
      planted = λ x m. m;
      entered = λ x m. m;
      rights = every_more (λ x. x ∈ F.rights) g (λ x m. m)
          (found alike_record record_eq g F.rights h);
    }
do_there F w (action.Join j) h =
    record {
      acted = λ x m. m;
      rights = λ x m. m;
      planted = λ x m. m;
      entered = λ x m. m;
      members = every_more (λ x. x ∈ F.members) j (λ x m. m)
          (found alike_member member_eq j F.members h);
    }

all_there : (F : State) (m : Move) → T (there F m) → Part (added F m) F
all_there F (switching a v) h = act_there F v h
all_there F (granting a e r) h = do_there F a (action.Grant (right_record public e r true)) h
all_there F (joining a q v) h = do_there F a (action.Join (member_record v q)) h
all_there F (calling a x) h = do_there F a (action.Call x) h
all_there F (following v l) h = do_there F (worker l.runner v) l.action h
all_there F (taking v x) h = act_there F v h
all_there F (lending v x u y) h = do_there F u (action.Call y) h

module _ (L : Lists) (f : Sound L) where
  was_entered : (F : State) (x : Object) (v : ℕ) → T (enteredᵇ L F x v) → pair x v ∈ F.entered
  was_entered F x v h = found alike_entry entry_eq (pair x v) F.entered h

  true_entered : (F : State) (x : Object) (v : ℕ) → pair x v ∈ F.entered → T (enteredᵇ L F x v)
  true_entered F x v m = some_any (alike_entry (pair x v)) (pair x v) m (entry_same (pair x v))

  -- a move that applies is a rule
  is_rule : (F : State) (m : Move) → T (applies L F m) → Rule L F (added F m)
  is_rule F (switching a v) h = let k = and_right _ _ h in
      Rule.switch (found_number a F.acted (and_left _ _ h)) (is_true L kind.Account v (and_left _ _ k))
      (holds_true L f F v Impersonate a (and_right _ _ k))
  is_rule F (granting a e r) h = let k = and_right _ _ h in
      Rule.grant (found_number a F.acted (and_left _ _ h)) (passed _ (and_left _ _ k)) (may_true L f F e r a (and_right _ _ k))
  is_rule F (joining a q v) h = let k = and_right _ _ h in let j = and_right _ _ k in
      Rule.join (found_number a F.acted (and_left _ _ h)) (is_true L kind.Role q (and_left _ _ k)) (is_true L kind.Account v (and_left _ _ j))
      (holds_true L f F q Alter a (and_right _ _ j))
  is_rule F (calling a x) h = let k = and_right _ _ h in
      Rule.call (found_number a F.acted (and_left _ _ h)) (object_true L x (and_left _ _ k))
      (holds_true L f F (place_of x) (entry_right x) a (and_right _ _ k))
  is_rule F (following v l) h = let k = and_right _ _ h in
      Rule.follow (was_entered F l.object v (and_left _ _ h)) (found alike_line line_eq l L.lines (and_left _ _ k))
      (does_true L f F l.object (worker l.runner v) l.action (and_right _ _ k))
  is_rule F (taking v x) h = Rule.taken (was_entered F x v (and_left _ _ h)) (plant_true L f F x (and_right _ _ h))
  is_rule F (lending v x u y) h = let k = and_right _ _ h in let j = and_right _ _ k in let i = and_right _ _ j in
      Rule.lent (was_entered F x v (and_left _ _ h)) (plant_true L f F x (and_right _ _ i)) (found_number u F.acted (and_left _ _ k))
      (object_true L y (and_left _ _ j)) (one_owner_true L f F x y (and_left _ _ i))

  module _ (k : ℕ) (F : State) (c : T (closedᵇ L k F)) where
    at_rest : (m : Move) → m ∈ moves L F → T (applies L F m) → Part (added F m) F
    at_rest m i h = elim (or_cases (there F m) (λ _. not (applies L F m)) (every_at (idle L F) (moves L F) (and_right _ _ c) m i))
        [ inl t ↦ all_there F m t | inr t ↦ absurd (T_not (applies L F m) t h) ]

    by_actor : (a : ℕ) (m : Move) → a ∈ F.acted → m ∈ actor_moves L a → m ∈ moves L F
    by_actor a m i h = Memᴰ.append_left _ (in_each (actor_moves L) a m i h)

    by_entry : (n : Entry) (m : Move) → n ∈ F.entered → m ∈ entry_moves L F n → m ∈ moves L F
    by_entry n m i h = Memᴰ.append_right (each (actor_moves L) F.acted) (in_each (entry_moves L F) n m i h)

    shut : (G : State) → Rule L F G → Part G F
    shut G (Rule.switch {a} {v} m i h) = at_rest (switching a v)
        (by_actor a _ m (Memᴰ.append_left _ (in_map (switching a) v (in_are L kind.Account v i))))
        (and_both _ _ (number_found a m) (and_both _ _ (true_is L kind.Account v i) (true_holds L f F v Impersonate h)))
    shut G (Rule.grant {a} {e} {r} m t h) = at_rest (granting a e r)
        (by_actor a _ m
        (Memᴰ.append_right (map (switching a) (are L kind.Account))
        (Memᴰ.append_left _ (in_each (λ d. map (granting a d) rights) e _ (stands_in L e t) (in_map (granting a e) r (right_listed r))))))
        (and_both _ _ (number_found a m) (and_both _ _ (passes t) (true_may L f F e r h)))
    shut G (Rule.join {a} {q} {v} m i j h) = at_rest (joining a q v)
        (by_actor a _ m
        (Memᴰ.append_right (map (switching a) (are L kind.Account)) (Memᴰ.append_right (each (λ d. map (granting a d) rights) (numbers L))
        (Memᴰ.append_left _
        (in_each (λ p. map (joining a p) (are L kind.Account)) q _ (in_are L kind.Role q i) (in_map (joining a q) v (in_are L kind.Account v j)))))))
        (and_both _ _ (number_found a m)
        (and_both _ _ (true_is L kind.Role q i) (and_both _ _ (true_is L kind.Account v j) (true_holds L f F q Alter h))))
    shut G (Rule.call {a} {x} m i h) = at_rest (calling a x)
        (by_actor a _ m
        (Memᴰ.append_right (map (switching a) (are L kind.Account)) (Memᴰ.append_right (each (λ d. map (granting a d) rights) (numbers L))
        (Memᴰ.append_right (each (λ p. map (joining a p) (are L kind.Account)) (are L kind.Role)) (in_map (calling a) x (in_objects L x i))))))
        (and_both _ _ (number_found a m) (and_both _ _ (true_object L x i) (true_holds L f F (place_of x) (entry_right x) h)))
    shut G (Rule.follow {v} {l} m i h) = at_rest (following v l)
        (by_entry (pair l.object v) _ m (Memᴰ.tail (Memᴰ.append_left _ (in_map (following v) l i))))
        (and_both _ _ (true_entered F l.object v m) (and_both _ _ (some_any (alike_line l) l i (line_same l))
        (true_does L f F l.object (worker l.runner v) l.action h)))
    shut G (Rule.taken {v} {x} m p) = at_rest (taking v x)
        (by_entry (pair x v) _ m (Memᴰ.head refl))
        (and_both _ _ (true_entered F x v m) (true_plant L f F x p))
    shut G (Rule.lent {v} {u} {x} {y} m p a o e) = at_rest (lending v x u y)
        (by_entry (pair x v) _ m
        (Memᴰ.tail
        (Memᴰ.append_right (map (following v) L.lines)
        (in_each (λ w. map (lending v x w) (objects L)) u _ a (in_map (lending v x u) y (in_objects L y o))))))
        (and_both _ _ (true_entered F x v m)
        (and_both _ _ (number_found u a) (and_both _ _ (true_object L y o) (and_both _ _ (true_one_owner L f F x y e) (true_plant L f F x p)))))

    pub closed_true : Closed L k F
    closed_true =
        record {
          begun = record {
            acted = λ x m. one x m;
            rights = λ g m. found alike_record record_eq g F.rights
                (every_at (λ h. any (alike_record h) F.rights) L.rights
                (and_left _ _ (and_right _ _ (and_left _ _ c))) g m);
            members = λ j m. found alike_member member_eq j F.members
                (every_at (λ h. any (alike_member h) F.members) L.members (and_right _ _ (and_right _ _ (and_left _ _ c))) j m);
            planted = λ x m. absurd (Memᴰ.not-nil m);
            entered = λ x m. absurd (Memᴰ.not-nil m);
          };
          shut = shut;
        }
      where
        one : (x : ℕ) → x ∈ (k ∷ []) → x ∈ F.acted
        one x m = every_more (λ v. v ∈ F.acted) k (λ v n. absurd (Memᴰ.not-nil n)) (found_number k F.acted (and_left _ _ (and_left _ _ c))) x m

  module _ (k : ℕ) (i : Is L kind.Account k) where
    no_idle : (b c : Bool) → (T (or_else b (λ _. not c)) → ⊥) → T c
    unfolding or_else
    no_idle true c n = absurd (n tt)
    no_idle false true n = tt
    no_idle false false n = absurd (n tt)

    moved : (F : State) (m : Move) → Realized L k F → Realized L k (move_by L (idle L F m) F m)
    moved F m z = go (idle L F m) (λ n. no_idle (there F m) (applies L F m) n)
      where
        go : (b : Bool) → ((T b → ⊥) → T (applies L F m)) → Realized L k (move_by L b F m)
        go true h = z
        go false h = rules_are_steps L f k i F (added F m) z (is_rule F m (h (λ t. t)))

    moved_all : (ms : List Move) (F : State) → Realized L k F → Realized L k (move_all L F ms)
    moved_all [] F z = z
    moved_all (m ∷ ms) F z = moved_all ms _ (moved F m z)

    stopped : (b : Bool) (F : State) (g : Unit {0} → State) → Realized L k F → Realized L k (g tt) → Realized L k (stop_or L b F g)
    stopped true F g z y = z
    stopped false F g z y = y

    swept : (n : ℕ) (F : State) → Realized L k F → Realized L k (sweeps L n F)
    swept zero F z = z
    swept (suc n) F z =
        stopped (every (idle L F) (moves L F)) F (λ _. sweeps L n (move_all L F (moves L F))) z (swept n _ (moved_all (moves L F) F z))

    pub reached_realized : (n : ℕ) → Realized L k (reached L n k)
    reached_realized n = swept n (start L k) (record { steps = []; final = start L k; run = ends; part = part_same (start L k) })

module _ (L : Lists) (s : Sound L) (n k : ℕ) (h : T (solves L k (reached L n k))) where
  tells : Tells L k (reached L n k)
  tells =
      saturation_tells L s k (reached L n k) (closed_true L s k (reached L n k) (and_right _ _ h))
      (reached_realized L s k (is_true L kind.Account k (and_left _ _ h)) n)

  pub use_decided : (e : ℕ) (r : Right) → Use L k e r ↔ T (usesᵇ L (reached L n k) e r)
  use_decided e r = (to, back)
    where
      to : Use L k e r → T (usesᵇ L (reached L n k) e r)
      to u =
          let (v, m, d) = (tells.uses e r).0 u in
          and_both _ _ (passes (holds_stands d)) (some_any (λ w. holdsᵇ L (reached L n k) w e r) v m (true_holds L s (reached L n k) e r d))

      given : Passing (λ w. holdsᵇ L (reached L n k) w e r) (reached L n k).acted → Use L k e r
      given p = (tells.uses e r).1 (p.it, p.in_list, holds_true L s (reached L n k) e r p.it p.passes)

      back : T (usesᵇ L (reached L n k) e r) → Use L k e r
      back t = given (any_some _ _ (and_right _ _ t))

  pub hold_decided : (e : ℕ) (r : Right) → Hold L k e r ↔ T (holdsᵇ L (reached L n k) k e r)
  hold_decided e r =
      (λ u. true_holds L s (reached L n k) e r ((tells.holds e r).0 u), λ t. (tells.holds e r).1 (holds_true L s (reached L n k) e r k t))
