-- A saturation goes on by a plant and what follows it.
use Rattle.std.proofs.Common.{◌≡◌, ℕ, ◌+◌, length, sym, refl, ap, ◌∙◌, subst, arith}
use mathlib.Core.List.Memᴰ
use Rattle.access.specs.declared.entities.Kind.TheVariants.{Account}
use Rattle.access.specs.declared.rights.Right.TheVariants.{Alter, Impersonate}
use Rattle.access.specs.declared.code.Object.{Object}
use Rattle.access.specs.declared.code.Runner.TheVariants as runner
use Rattle.access.specs.declared.code.Action.TheVariants as action
use Rattle.access.specs.declared.code.Line.{Line}
use Rattle.access.specs.Lists.{◌∈◌, Lists}
use Rattle.access.specs.Places.{place_of}
use Rattle.runs.specs.declared.steps.Step.TheVariants.{Switch, Plant, Follow}
use Rattle.runs.specs.Standing.{Is, IsObject, OneOwner, a_call}
use Rattle.runs.specs.States.{State, pair, acting, planting, done}
use Rattle.runs.specs.Rights.{Holds}
use Rattle.runs.specs.Runs.{the_caller, an_account, by_owner, by_grant, planted, Allowed, switch, plant, follow, after}
use Rattle.runs.specs.Turns.{to_public}
use Rattle.runs.proofs.Grounds.{is_stands}
use Rattle.runs.proofs.RightLaws.{may_self, opened}
use Rattle.runs.proofs.Growing.{part_trans}
use Rattle.runs.proofs.Realizing.{public_proper}
use Rattle.fitting.proofs.Smalls.{is_small, object_small}
use Rattle.session.specs.Reached.{state_of}
use Rattle.session.specs.declared.states.RunState.{RunState}
use Rattle.saturation.specs.Progress.{no_lists, steps_of, gained, Once, Few, Ran, Goes, Grown}
use Rattle.saturation.proofs.Standing.{gained_rights, peopled}
use Rattle.saturation.proofs.Gaining.{once_acting, once_planting, once_granting, once_entering}
use Rattle.saturation.proofs.Onwards.{onward_trans}
use Rattle.saturation.proofs.Going.{Committed, longer, ran_on, part_on, onward_on}

-- in the line whoever entered the object lets everyone impersonate it
abbrev pub granting : Object → ℕ → Line
granting x v = record { object = x; runner = runner.Caller; action = action.Grant (to_public v) }

-- by the line account u enters object y
abbrev pub calling : Object → Object → ℕ → Line
calling x y u = record { object = x; runner = runner.Account u; action = action.Call y }

module _ {L : Lists} {s : RunState} (g : Goes L s) {a : ℕ} {x : Object} {v : ℕ} (m : a ∈ (state_of L s).acted) (n : pair x v ∈ (state_of L s).entered)
    (h : Holds L (state_of L s) a (place_of x) Alter) where
  abbrev S : State
  S = state_of L s

  x_is : IsObject L x
  x_is = ((peopled g.ran).entered _ n).0

  v_is : Is L Account v
  v_is = ((peopled g.ran).entered _ n).1

  -- plant, follow, switch
  module _ (new : v ∈ S.acted → ⊥) (fresh : to_public v ∈ S.rights → ⊥) {t u w : RunState}
      (c : Committed s t (Plant a (granting x v))) (d : Committed t u (Follow v (granting x v))) (e : Committed u w (Switch a v)) where
    abbrev S₁ : State
    S₁ = planting S (granting x v)

    abbrev S₂ : State
    S₂ = done S₁ v (action.Grant (to_public v))

    taken_ran : Ran L w
    taken_ran =
        let i = is_stands L v_is in
        let k = g.ran.sound in
        let z = is_small k v_is in
        let q = public_proper L k v Impersonate i in
        let r = ran_on g.ran (plant m x_is h the_caller q) tt c in
        let p : Allowed L S₁ (Follow v (granting x v)) = follow n (planted (Memᴰ.head refl)) (by_grant (may_self L k S₁ v v_is)) in
        let r₁ = ran_on r (subst (λ T. Allowed L T (Follow v (granting x v))) (sym (c.state L)) p) z d in
        let p₁ : Allowed L S₂ (Switch a v) = switch m v_is (opened L k S₂ a v Impersonate i (Memᴰ.head refl)) in
        ran_on r₁ (subst (λ T. Allowed L T (Switch a v)) (sym (d.state L ∙ ap (λ T. after T (Follow v (granting x v))) (c.state L))) p₁) z e

    taken_gained : gained w ≡ acting (done (planting (gained s) (granting x v)) v (action.Grant (to_public v))) v
    taken_gained = e.state no_lists ∙ ap (λ T. acting T v) (d.state no_lists ∙ ap (λ T. after T (Follow v (granting x v))) (c.state no_lists))

    taken_long : length (steps_of w) ≡ length (steps_of s) + 3
    taken_long = omega (arith, longer c, longer d, longer e)

    taken_once : Once L (gained w)
    taken_once =
        let i = is_stands L v_is in
        subst (Once L) (sym taken_gained)
        (once_acting (once_granting (once_planting g.once (granting x v)) (to_public v) v (record { principal = refl; stands = i; option = refl }) (λ k. fresh (gained_rights L s _ k))) v new)

    taken_few : Few (length (steps_of w)) (gained w)
    taken_few = subst (λ G. Few (length (steps_of w)) G) (sym taken_gained) (omega (arith, taken_long, g.few))

    pub taken_on : Grown L s w
    taken_on = record {
      goes = record { ran = taken_ran; once = taken_once; few = taken_few };
      opener = e.opener ∙ d.opener ∙ c.opener;
      part = part_trans (part_on L c) (part_trans (part_on L d) (part_on L e));
      onward = onward_trans (onward_on L c) (onward_trans (onward_on L d) (onward_on L e));
      steps = omega (arith, taken_long);
      quiet = λ q. absurd (omega (arith, taken_long, q));
    }

    pub taken_acted : v ∈ (state_of L w).acted
    taken_acted = subst (λ T. v ∈ T.acted) (sym (e.state L)) (Memᴰ.head refl)

  -- plant, follow
  module _ {y : Object} {b : ℕ} (i : Is L Account b) (j : Holds L S a b Impersonate) (y_is : IsObject L y) (o : OneOwner L x y)
      (new : pair y b ∈ S.entered → ⊥) {t u : RunState} (c : Committed s t (Plant a (calling x y b))) (d : Committed t u (Follow v (calling x y b))) where
    lent_ran : Ran L u
    lent_ran =
        let k = g.ran.sound in
        let r = ran_on g.ran (plant m x_is h (an_account i j) (a_call y_is)) tt c in
        let p : Allowed L (planting S (calling x y b)) (Follow v (calling x y b)) = follow n (planted (Memᴰ.head refl)) (by_owner o) in
        ran_on r (subst (λ T. Allowed L T (Follow v (calling x y b))) (sym (c.state L)) p) (object_small k y_is, is_small k i) d

    lent_gained : gained u ≡ done (planting (gained s) (calling x y b)) b (action.Call y)
    lent_gained = d.state no_lists ∙ ap (λ T. after T (Follow v (calling x y b))) (c.state no_lists)

    lent_long : length (steps_of u) ≡ length (steps_of s) + 2
    lent_long = omega (arith, longer c, longer d)

    pub lent_on : Grown L s u
    lent_on = record {
      goes = record {
        ran = lent_ran;
        once = subst (Once L) (sym lent_gained) (once_entering (once_planting g.once (calling x y b)) y b new);
        few = subst (λ G. Few (length (steps_of u)) G) (sym lent_gained) (omega (arith, lent_long, g.few));
      };
      opener = d.opener ∙ c.opener;
      part = part_trans (part_on L c) (part_on L d);
      onward = onward_trans (onward_on L c) (onward_on L d);
      steps = omega (arith, lent_long);
      quiet = λ q. absurd (omega (arith, lent_long, q));
    }

    pub lent_entered : pair y b ∈ (state_of L u).entered
    lent_entered = subst (λ T. pair y b ∈ T.entered) (sym (d.state L)) (Memᴰ.head refl)
