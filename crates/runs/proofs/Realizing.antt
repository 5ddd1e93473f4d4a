-- Each rule by which a state is closed is a few steps of a run.
use Rattle.std.proofs.Common.{ℕ, true, List, [], ◌∷◌, ◌++◌, sym, refl, subst}
use mathlib.Core.List.Memᴰ
use Rattle.access.specs.declared.entities.Kind.TheVariants.{Account}
use Rattle.access.specs.declared.rights.Right.{Right}
use Rattle.access.specs.declared.rights.Right.TheVariants.{Impersonate}
use Rattle.access.specs.declared.code.Object.{Object}
use Rattle.access.specs.declared.code.Runner.{Runner}
use Rattle.access.specs.declared.code.Runner.TheVariants as runner
use Rattle.access.specs.declared.code.Action.{Action}
use Rattle.access.specs.declared.code.Action.TheVariants as action
use Rattle.access.specs.declared.code.Line.{Line}
use Rattle.access.specs.Lists.{◌∈◌, Lists, public}
use Rattle.catalogue.specs.Sound.{Sound}
use Rattle.runs.specs.declared.steps.Entry.{Entry}
use Rattle.runs.specs.declared.steps.Step.{Step}
use Rattle.runs.specs.declared.steps.Step.TheVariants.{Switch, Grant, Join, Plant, Call, Follow}
use Rattle.runs.specs.Standing.{Is, IsObject, OneOwner, Stands, a_role, Proper, a_call, a_grant, a_join}
use Rattle.runs.specs.States.{State, Part, start, pair, acting, planting, done}
use Rattle.runs.specs.Rights.{right_record, member_record, Holds}
use Rattle.runs.specs.Runs.{worker, Lends, by_owner, by_grant, LineStands, in_catalogue, Allowed, switch, grant, join, plant, call, follow, after, Run, ends, goes}
use Rattle.runs.specs.Saturated.{Plantable, Realized, Rule}
use Rattle.runs.specs.Turns.{to_public}
use Rattle.runs.specs.Laws.{Covers, SaturationTells, RulesAreSteps}
use Rattle.runs.proofs.Grounds.{is_stands, role_is, public_role, IsCall, to, IsRunner, calls, runners}
use Rattle.runs.proofs.RightLaws.{holds_more, may_self, opened}
use Rattle.runs.proofs.Growing.{allowed_more, part_trans, after_grows, after_more, run_then}
use Rattle.runs.proofs.Covering.{every_more, saturation_covers}

-- the accounts of a state are accounts, its objects stand, and its lines are such as could be planted
pub record Peopled (L : Lists) (S : State) : Type 0 where
  pub acted : (v : ℕ) → v ∈ S.acted → Is L Account v
  pub planted : (l : Line) → l ∈ S.planted → IsRunner L l.runner × Proper L l.action
  pub entered : (n : Entry) → n ∈ S.entered → IsObject L n.object × Is L Account n.account

module _ (L : Lists) (s : Sound L) where
  pub call_proper : {t : Action} → IsCall L t → Proper L t
  call_proper (to o) = a_call o

  lends_runner : {S : State} {a : ℕ} {n : Runner} → Lends L S a n → IsRunner L n
  lends_runner Lends.the_caller = IsRunner.the_caller
  lends_runner (Lends.an_account i h) = IsRunner.an_account i

  pub worker_account : {v : ℕ} {n : Runner} → Is L Account v → IsRunner L n → Is L Account (worker n v)
  worker_account i IsRunner.the_caller = i
  worker_account i (IsRunner.an_account w) = w

  done_peopled : {S : State} → Peopled L S → (w : ℕ) (t : Action) → Is L Account w → Proper L t → Peopled L (done S w t)
  done_peopled p w t i (a_call {y = y} o) = record { acted = p.acted; planted = p.planted; entered = every_more (λ n. IsObject L n.object × Is L Account n.account) (pair y w) p.entered (o, i) }
  done_peopled p w t i (a_grant q e) = record { acted = p.acted; planted = p.planted; entered = p.entered }
  done_peopled p w t i (a_join v q) = record { acted = p.acted; planted = p.planted; entered = p.entered }

  line_fits : {S : State} {l : Line} → Peopled L S → LineStands L S l → IsRunner L l.runner × Proper L l.action
  line_fits {l = l} p (in_catalogue m) = (runners L s l m, call_proper (calls L s l m))
  line_fits {l = l} p (LineStands.planted m) = p.planted l m

  pub step_peopled : {S : State} {t : Step} → Peopled L S → Allowed L S t → Peopled L (after S t)
  step_peopled p (switch {v = v} m i h) = record { acted = every_more (Is L Account) v p.acted i; planted = p.planted; entered = p.entered }
  step_peopled p (grant {a = a} {g = g} m q h) = done_peopled p a (action.Grant g) (p.acted a m) q
  step_peopled p (join {a = a} {m = j} m q h) = done_peopled p a (action.Join j) (p.acted a m) q
  step_peopled p (plant {l = l} m o h n q) = record {
    acted = p.acted;
    planted = every_more (λ x. IsRunner L x.runner × Proper L x.action) l p.planted (lends_runner n, q);
    entered = p.entered;
  }
  step_peopled p (call {a = a} {x = x} m o h) = done_peopled p a (action.Call x) (p.acted a m) (a_call o)
  step_peopled p (follow {v = v} {l = l} m n h) =
      done_peopled p (worker l.runner v) l.action (worker_account (p.entered _ m).1 (line_fits p n).0) (line_fits p n).1

  pub run_peopled : {S T : State} {ss : List Step} → Peopled L S → Run L S ss T → Peopled L T
  run_peopled p ends = p
  run_peopled p (goes h r) = run_peopled (step_peopled p h) r

  pub start_peopled : (k : ℕ) → Is L Account k → Peopled L (start L k)
  start_peopled k i = record {
    acted = λ v m. subst (Is L Account) (sym (Memᴰ.eq_of_singleton m)) i;
    planted = λ l m. absurd (Memᴰ.not-nil m);
    entered = λ l m. absurd (Memᴰ.not-nil m);
  }

  module _ (k : ℕ) where
    -- one step more
    one : {F : State} {t : Step} → Realized L k F → Allowed L F t → Realized L k (after F t)
    one {F} {t} z h = record {
      steps = z.steps ++ (t ∷ []);
      final = after z.final t;
      run = run_then z.run (goes (allowed_more z.part h) ends);
      part = after_more z.part t;
    }

    less : {F G : State} → Part F G → Realized L k G → Realized L k F
    less p z = record { steps = z.steps; final = z.final; run = z.run; part = part_trans p z.part }

  pub public_proper : (e : ℕ) (r : Right) → Stands L e → Proper L (action.Grant (right_record public e r true))
  public_proper e r t = a_grant (a_role (role_is L public (public_role L s))) t

  to_public_proper : (v : ℕ) → Is L Account v → Proper L (action.Grant (to_public v))
  to_public_proper v i = public_proper v Impersonate (is_stands L i)

  module _ (k : ℕ) (F : State) (z : Realized L k F) (v : ℕ) (x : Object) (o : IsObject L x) (m : pair x v ∈ F.entered) (p : Plantable L F x) where
    -- plant, follow, switch
    taken : Is L Account v → Realized L k (acting F v)
    taken i =
        let l : Line = record { object = x; runner = runner.Caller; action = action.Grant (to_public v) } in
        let F₁ : State = planting F l in
        let F₂ : State = done F₁ v (action.Grant (to_public v)) in
        let z₁ : Realized L k F₁ = one k {t = Plant p.planter l} z (plant p.acted o p.holds Lends.the_caller (to_public_proper v i)) in
        let z₂ : Realized L k F₂ = one k {t = Follow v l} z₁ (follow m (LineStands.planted (Memᴰ.head refl)) (by_grant (may_self L s F₁ v i))) in
        less k (after_more (part_trans (after_grows F (Plant p.planter l)) (after_grows F₁ (Follow v l))) (Switch p.planter v))
        (one k {t = Switch p.planter v} z₂ (switch p.acted i (opened L s F₂ p.planter v Impersonate (is_stands L i) (Memᴰ.head refl))))

    -- plant, follow
    lent_held : (u : ℕ) (y : Object) → IsObject L y → Is L Account u → Holds L F p.planter u Impersonate → OneOwner L x y → Realized L k (done F u (action.Call y))
    lent_held u y n i h e =
        let l : Line = record { object = x; runner = runner.Account u; action = action.Call y } in
        let z₁ : Realized L k (planting F l) = one k {t = Plant p.planter l} z (plant p.acted o p.holds (Lends.an_account i h) (a_call n)) in
        less k (after_more (after_grows F (Plant p.planter l)) (Call u y))
        (one k {t = Follow v l} z₁ (follow m (LineStands.planted (Memᴰ.head refl)) (by_owner e)))

  -- grant, plant, follow
  lent : (k : ℕ) (F : State) → Realized L k F → (v : ℕ) (x : Object) → IsObject L x → pair x v ∈ F.entered → Plantable L F x
      → (u : ℕ) (y : Object) → IsObject L y → Is L Account u → u ∈ F.acted → OneOwner L x y → Realized L k (done F u (action.Call y))
  lent k F z v x o m p u y n i a e =
      let F₁ : State = done F u (action.Grant (to_public u)) in
      let q : Part F F₁ = after_grows F (Grant u (to_public u)) in
      let z₁ : Realized L k F₁ = one k {t = Grant u (to_public u)} z (grant a (to_public_proper u i) (may_self L s F u i)) in
      less k (after_more q (Call u y))
      (lent_held k F₁ z₁ v x o m (record { planter = p.planter; acted = p.acted; holds = holds_more q p.holds }) u y n i
      (opened L s F₁ p.planter u Impersonate (is_stands L i) (Memᴰ.head refl)) e)

pub rules_are_steps : RulesAreSteps
rules_are_steps L s k i F G z r = go G r
  where
    p : Peopled L z.final
    p = run_peopled L s (start_peopled L s k i) z.run

    go : (G : State) → Rule L F G → Realized L k G
    go G (Rule.switch {a = a} {v = v} m j h) = one L s k {t = Switch a v} z (switch m j h)
    go G (Rule.grant {a = a} {e = e} {r = r} m t h) = one L s k {t = Grant a (right_record public e r true)} z (grant m (public_proper L s e r t) h)
    go G (Rule.join {a = a} {q = q} {v = v} m j n h) = one L s k {t = Join a (member_record v q)} z (join m (a_join n j) h)
    go G (Rule.call {a = a} {x = x} m o h) = one L s k {t = Call a x} z (call m o h)
    go G (Rule.follow {v = v} {l = l} m n h) = one L s k {t = Follow v l} z (follow m (in_catalogue n) h)
    go G (Rule.taken {v = v} {x = x} m q) = let e : IsObject L x × Is L Account v = p.entered _ (z.part.entered _ m) in taken L s k F z v x e.0 m q e.1
    go G (Rule.lent {v = v} {u = u} {x = x} {y = y} m q a o h) =
        lent L s k F z v x (p.entered _ (z.part.entered _ m)).0 m q u y o (p.acted u (z.part.acted u a)) a h

pub saturation_tells : SaturationTells
saturation_tells L s k F c z =
    let h : Covers L k F = saturation_covers L s k F c in
    record {
      acts = λ v. (h.acts v, λ m. (z.steps, record { final = z.final; run = z.run; acted = z.part.acted v m }));
      uses = λ e r. (h.uses e r, λ u. (z.steps, record { final = z.final; run = z.run; actor = u.0; acted = z.part.acted _ u.1; holds = holds_more z.part u.2 }));
      holds = λ e r. (h.holds e r, λ u. (z.steps, record { final = z.final; run = z.run; holds = holds_more z.part u }));
    }
