-- A state that a run comes to, and to which no account's turn adds anything, is closed.
use Rattle.std.proofs.Common.{ℕ, true, ⊎_elim, refl}
use mathlib.Core.List.Memᴰ
use Rattle.access.specs.declared.entities.Kind.TheVariants.{Account}
use Rattle.access.specs.declared.rights.Right.TheVariants.{Impersonate}
use Rattle.access.specs.declared.code.Object.{Object}
use Rattle.access.specs.declared.code.Action.TheVariants as action
use Rattle.access.specs.Lists.{◌∈◌, Lists, public}
use Rattle.catalogue.specs.Sound.{Sound}
use Rattle.runs.specs.declared.steps.Step.{Step}
use Rattle.runs.specs.declared.steps.Step.TheVariants.{Switch, Grant, Join, Call, Follow}
use Rattle.runs.specs.Standing.{Is, IsObject, OneOwner, a_join}
use Rattle.runs.specs.States.{State, Part, pair, acting, done}
use Rattle.runs.specs.Rights.{right_record, member_record, Holds}
use Rattle.runs.specs.Runs.{in_catalogue, Allowed, switch, grant, join, call, follow, after, doer_of}
use Rattle.runs.specs.Saturated.{Plantable, Rule}
use Rattle.runs.specs.Turns.{to_public, Tried, Turned}
use Rattle.runs.specs.Laws.{TurnsTell}
use Rattle.runs.proofs.Grounds.{is_stands, runners}
use Rattle.runs.proofs.RightLaws.{holds_self, may_self, opened}
use Rattle.runs.proofs.Growing.{part_same, run_grows}
use Rattle.runs.proofs.Covering.{every_more}
use Rattle.runs.proofs.Realizing.{Peopled, worker_account, run_peopled, start_peopled, public_proper, saturation_tells}

module _ (L : Lists) (s : Sound L) (S : State) (p : Peopled L S) (turned : (a : ℕ) → Is L Account a → Turned L S S a) where
  tried : (t : Step) → Tried L t → Is L Account (doer_of t) → Allowed L S t → Part (after S t) S
  tried t q i h = (turned (doer_of t) i).steps t q refl h

  switched : (a v : ℕ) → a ∈ S.acted → Is L Account v → Holds L S a v Impersonate → Part (acting S v) S
  switched a v m i h = tried (Switch a v) Tried.switch (p.acted a m) (switch m i h)

  -- a right on v that is open to all lets every actor switch to v
  taken : (v : ℕ) (x : Object) → pair x v ∈ S.entered → Plantable L S x → Is L Account v → Part (acting S v) S
  taken v x m q i =
      ⊎_elim
      (λ a. switched v v a i (holds_self L s S v i))
      (λ g. switched q.planter v q.acted i (opened L s S q.planter v Impersonate (is_stands L i) g))
      ((turned q.planter (p.acted q.planter q.acted)).taken x v q.acted m q.holds)

  -- whoever is acted as has let everyone impersonate it, by a turn of its own
  lent : (v u : ℕ) (x y : Object) → pair x v ∈ S.entered → Plantable L S x → u ∈ S.acted → IsObject L y → OneOwner L x y
      → Part (done S u (action.Call y)) S
  lent v u x y m q a o e =
      let i : Is L Account u = p.acted u a in
      let g : to_public u ∈ S.rights =
      (tried (Grant u (to_public u)) Tried.grant i (grant a (public_proper L s u Impersonate (is_stands L i)) (may_self L s S u i))).rights _ (Memᴰ.head refl) in
      let n : pair y u ∈ S.entered =
      (turned q.planter (p.acted q.planter q.acted)).lent x y v u q.acted m q.holds a (opened L s S q.planter u Impersonate (is_stands L i) g) o e in
      record {
        acted = λ z h. h;
        rights = λ z h. h;
        members = λ z h. h;
        planted = λ z h. h;
        entered = every_more (λ z. z ∈ S.entered) (pair y u) (λ z h. h) n;
      }

  shut : (G : State) → Rule L S G → Part G S
  shut G (Rule.switch {a = a} {v = v} m j h) = switched a v m j h
  shut G (Rule.grant {a = a} {e = e} {r = r} m t h) = tried (Grant a (right_record public e r true)) Tried.grant (p.acted a m) (grant m (public_proper L s e r t) h)
  shut G (Rule.join {a = a} {q = q} {v = v} m j n h) = tried (Join a (member_record v q)) Tried.join (p.acted a m) (join m (a_join n j) h)
  shut G (Rule.call {a = a} {x = x} m o h) = tried (Call a x) Tried.call (p.acted a m) (call m o h)
  shut G (Rule.follow {v = v} {l = l} m n h) =
      tried (Follow v l) (Tried.follow n) (worker_account L s (p.entered _ m).1 (runners L s l n)) (follow m (in_catalogue n) h)
  shut G (Rule.taken {v = v} {x = x} m q) = taken v x m q (p.entered _ m).1
  shut G (Rule.lent {v = v} {u = u} {x = x} {y = y} m q a o e) = lent v u x y m q a o e

pub turns_tell : TurnsTell
turns_tell L s k i S steps r turned =
    saturation_tells L s k S
    (record { begun = run_grows r; shut = shut L s S (run_peopled L s (start_peopled L s k i) r) turned })
    (record { steps = steps; final = S; run = r; part = part_same S })
