-- No run from the opener passes a closed state.
use Rattle.std.proofs.Common.{ℕ, List, ◌∷◌, sym, refl, subst}
use mathlib.Core.List.Memᴰ
use Rattle.access.specs.declared.entities.Kind.TheVariants.{Account}
use Rattle.access.specs.declared.rights.Right.TheVariants.{Alter, Impersonate}
use Rattle.access.specs.declared.rights.RightRecord.{RightRecord}
use Rattle.access.specs.declared.roles.Member.{Member}
use Rattle.access.specs.declared.code.Object.{Object}
use Rattle.access.specs.declared.code.Runner.{Runner}
use Rattle.access.specs.declared.code.Runner.TheVariants as runner
use Rattle.access.specs.declared.code.Action.{Action}
use Rattle.access.specs.declared.code.Action.TheVariants as action
use Rattle.access.specs.declared.code.Line.{Line}
use Rattle.access.specs.Lists.{◌∈◌, Lists}
use Rattle.catalogue.specs.Sound.{Sound}
use Rattle.runs.specs.declared.steps.Step.{Step}
use Rattle.runs.specs.Standing.{Is, Stands, Proper, a_call, a_grant, a_join}
use Rattle.runs.specs.States.{State, Sub, Part, start, pair, acting, planting, done}
use Rattle.runs.specs.Rights.{Holds, MayGrant}
use Rattle.runs.specs.Runs.{worker, Lends, the_caller, an_account, MayDo, by_right, by_owner, by_grant, by_alter, LineStands, in_catalogue, Allowed, switch, grant, join, plant, call, follow, after, Run, ends, goes}
use Rattle.runs.specs.Saturated.{Plantable, Rule, Closed}
use Rattle.runs.specs.Laws.{Covers, SaturationCovers}
use Rattle.runs.proofs.Grounds.{IsCall, to, calls}
use Rattle.runs.proofs.RightLaws.{Granted, as_it_is, to_all, Gives, holds_inside, may_inside}

pub data RunsWithin (F : State) : Runner → Type 0 where
  as_caller : RunsWithin F runner.Caller
  an_actor : {w : ℕ} → w ∈ F.acted → RunsWithin F (runner.Account w)

pub record PlantsWithin (L : Lists) (F : State) (l : Line) : Type 0 where
  pub plantable : Plantable L F l.object
  pub runner : RunsWithin F l.runner
  pub proper : Proper L l.action

pub record Inside (L : Lists) (F S : State) : Type 0 where
  pub acted : Sub S.acted F.acted
  pub rights : (g : RightRecord) → g ∈ S.rights → Granted F g
  pub members : Sub S.members F.members
  pub planted : (l : Line) → l ∈ S.planted → PlantsWithin L F l
  pub entered : Sub S.entered F.entered

-- what holds of every element stays so where one is added of which it holds
pub every_more : {A : Type 0} (P : A → Type 0) (y : A) {xs : List A} → ((x : A) → x ∈ xs → P x) → P y → (x : A) → x ∈ (y ∷ xs) → P x
every_more P y h k x (Memᴰ.head e) = subst P (sym e) k
every_more P y h k x (Memᴰ.tail m) = h x m

module _ (L : Lists) (s : Sound L) (F : State) (k : ℕ) (c : Closed L k F) where
  -- what each rule says of a closed state
  acts_closed : {a v : ℕ} → a ∈ F.acted → Is L Account v → Holds L F a v Impersonate → v ∈ F.acted
  acts_closed m j h = (c.shut _ (Rule.switch m j h)).acted _ (Memᴰ.head refl)

  module _ (S : State) (i : Inside L F S) where
    gives : Gives F S
    gives = record { rights = i.rights; members = i.members }

    lends_inside : {a : ℕ} {n : Runner} → a ∈ F.acted → Lends L S a n → RunsWithin F n
    lends_inside m the_caller = as_caller
    lends_inside m (an_account j h) = an_actor (acts_closed m j (holds_inside L s F S gives h))

    -- each kind of addition stays inside
    act : (v : ℕ) → v ∈ F.acted → Inside L F (acting S v)
    act v m = record { acted = every_more (λ x. x ∈ F.acted) v i.acted m; rights = i.rights; members = i.members; planted = i.planted; entered = i.entered }

    plants : (l : Line) → PlantsWithin L F l → Inside L F (planting S l)
    plants l p = record { acted = i.acted; rights = i.rights; members = i.members; planted = every_more (PlantsWithin L F) l i.planted p; entered = i.entered }

    enters : (y : Object) (w : ℕ) → pair y w ∈ F.entered → Inside L F (done S w (action.Call y))
    enters y w m = record { acted = i.acted; rights = i.rights; members = i.members; planted = i.planted; entered = every_more (λ x. x ∈ F.entered) (pair y w) i.entered m }

    grants : (w : ℕ) (g : RightRecord) → w ∈ F.acted → Stands L g.entity → MayGrant L S w g.entity g.right → Inside L F (done S w (action.Grant g))
    grants w g m t h = record {
      acted = i.acted;
      rights = every_more (Granted F) g i.rights (to_all ((c.shut _ (Rule.grant m t (may_inside L s F S gives h))).rights _ (Memᴰ.head refl)));
      members = i.members;
      planted = i.planted;
      entered = i.entered;
    }

    joins : (w : ℕ) (j : Member) → w ∈ F.acted → Proper L (action.Join j) → Holds L S w j.role Alter → Inside L F (done S w (action.Join j))
    joins w j m (a_join v q) h = record {
      acted = i.acted;
      rights = i.rights;
      members = every_more (λ x. x ∈ F.members) j i.members ((c.shut _ (Rule.join m q v (holds_inside L s F S gives h))).members j (Memᴰ.head refl));
      planted = i.planted;
      entered = i.entered;
    }

    -- a catalogue's line calls
    follows_call : (w : ℕ) (x : Object) (t : Action) → IsCall L t → (MayDo L F x w t → Part (done F w t) F)
        → MayDo L S x w t → Inside L F (done S w t)
    follows_call w x t (to {y = y} o) f (by_right h) = enters y w ((f (by_right (holds_inside L s F S gives h))).entered _ (Memᴰ.head refl))
    follows_call w x t (to {y = y} o) f (by_owner h) = enters y w ((f (by_owner h)).entered _ (Memᴰ.head refl))

    -- whoever runs a planted line is acted as
    works : (v : ℕ) (x : Object) (n : Runner) → pair x v ∈ F.entered → Plantable L F x → RunsWithin F n → worker n v ∈ F.acted
    works v x n m p as_caller = (c.shut _ (Rule.taken m p)).acted v (Memᴰ.head refl)
    works v x n m p (an_actor w) = w

    follows_planted : (v w : ℕ) (x : Object) (t : Action) → pair x v ∈ F.entered → Plantable L F x → w ∈ F.acted → Proper L t
        → MayDo L S x w t → Inside L F (done S w t)
    follows_planted v w x t m p a (a_call {y = y} o) (by_right h) = enters y w ((c.shut _ (Rule.call a o (holds_inside L s F S gives h))).entered _ (Memᴰ.head refl))
    follows_planted v w x t m p a (a_call {y = y} o) (by_owner h) = enters y w ((c.shut _ (Rule.lent m p a o h)).entered _ (Memᴰ.head refl))
    follows_planted v w x t m p a (a_grant {g = g} q e) (by_grant h) = grants w g a e h
    follows_planted v w x t m p a (a_join {m = j} b q) (by_alter h) = joins w j a (a_join b q) h

    stays : (t : Step) → Allowed L S t → Inside L F (after S t)
    stays t (switch {v = v} m j h) = act v (acts_closed (i.acted _ m) j (holds_inside L s F S gives h))
    stays t (grant {a = a} {g = g} m (a_grant q e) h) = grants a g (i.acted _ m) e h
    stays t (join {a = a} {m = j} m q h) = joins a j (i.acted _ m) q h
    stays t (plant {a = a} {l = l} m o h n q) = plants l (record {
      plantable = record { planter = a; acted = i.acted a m; holds = holds_inside L s F S gives h };
      runner = lends_inside (i.acted a m) n;
      proper = q;
    })
    stays t (call {a = a} {x = x} m o h) = enters x a ((c.shut _ (Rule.call (i.acted _ m) o (holds_inside L s F S gives h))).entered _ (Memᴰ.head refl))
    stays t (follow {v = v} {l = l} m (in_catalogue n) h) =
        follows_call (worker l.runner v) l.object l.action (calls L s l n) (λ d. c.shut _ (Rule.follow (i.entered _ m) n d)) h
    stays t (follow {v = v} {l = l} m (LineStands.planted n) h) =
        let p : PlantsWithin L F l = i.planted l n in
        follows_planted v (worker l.runner v) l.object l.action (i.entered _ m) p.plantable
        (works v l.object l.runner (i.entered _ m) p.plantable p.runner) p.proper h

  run_inside : {S T : State} {ss : List Step} → Inside L F S → Run L S ss T → Inside L F T
  run_inside i ends = i
  run_inside i (goes {S = S} {s = t} h r) = run_inside (stays S i t h) r

  start_inside : Inside L F (start L k)
  start_inside = record {
    acted = c.begun.acted;
    rights = λ g m. as_it_is (c.begun.rights g m);
    members = c.begun.members;
    planted = λ l m. absurd (Memᴰ.not-nil m);
    entered = c.begun.entered;
  }

  covers : Covers L k F
  covers = record {
    acts = λ v (ss, h). (run_inside start_inside h.run).acted v h.acted;
    uses = λ e r (ss, u). (
      u.actor,
      (run_inside start_inside u.run).acted u.actor u.acted,
      holds_inside L s F u.final (gives u.final (run_inside start_inside u.run)) u.holds,
    );
    holds = λ e r (ss, h). holds_inside L s F h.final (gives h.final (run_inside start_inside h.run)) h.holds;
  }

pub saturation_covers : SaturationCovers
saturation_covers L s k F c = covers L s F k c
