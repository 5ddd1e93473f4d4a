-- To act as an account is to use all that it uses.
use Rattle.std.proofs.Common.{ℕ, [], ◌∷◌, ◌++◌, refl}
use mathlib.Core.List.Memᴰ
use Rattle.access.specs.declared.entities.Kind.TheVariants.{Account}
use Rattle.access.specs.declared.rights.Right.{Right}
use Rattle.access.specs.declared.rights.Right.TheVariants.{Impersonate}
use Rattle.access.specs.Lists.{◌∈◌, Lists}
use Rattle.catalogue.specs.Sound.{Sound}
use Rattle.runs.specs.declared.steps.Step.TheVariants.{Switch}
use Rattle.runs.specs.Standing.{Is}
use Rattle.runs.specs.States.{State, Part, start}
use Rattle.runs.specs.Runs.{switch, ends, goes, ActsAs, UseBy, Use}
use Rattle.runs.specs.Laws.{ActingIsUsing}
use Rattle.runs.proofs.Grounds.{is_stands}
use Rattle.runs.proofs.RightLaws.{holds_more, holds_self}
use Rattle.runs.proofs.Growing.{Mirrored, run_grows, run_more, run_then}

-- a state that a run came to contains the start of whoever is acted as in it
start_part : (L : Lists) (a b : ℕ) {S : State} → Part (start L a) S → b ∈ S.acted → Part (start L b) S
start_part L a b p m = record {
  acted = λ x h. Memᴰ.cast (Memᴰ.eq_of_singleton h) m;
  rights = p.rights;
  members = p.members;
  planted = λ x h. absurd (Memᴰ.not-nil h);
  entered = λ x h. absurd (Memᴰ.not-nil h);
}

pub act_then_use : (L : Lists) (a b : ℕ) → ActsAs L a b → (e : ℕ) (r : Right) → Use L b e r → Use L a e r
act_then_use L a b (ss, h) e r (ts, u) = (ss ++ ts, put (run_more (start_part L a b (run_grows h.run) h.acted) u.run))
  where
    put : Mirrored L h.final ts u.final → UseBy L a (ss ++ ts) e r
    put m = record {
      final = m.final;
      run = run_then h.run m.run;
      actor = u.actor;
      acted = m.part.acted u.actor u.acted;
      holds = holds_more m.part u.holds;
    }

-- an account uses impersonate on itself, by a run of no step
pub use_self : (L : Lists) → Sound L → (b : ℕ) → Is L Account b → Use L b b Impersonate
use_self L s b i =
    ([], record { final = start L b; run = ends; actor = b; acted = Memᴰ.head refl; holds = holds_self L s (start L b) b i })

pub use_then_act : (L : Lists) (a b : ℕ) → Is L Account b → Use L a b Impersonate → ActsAs L a b
use_then_act L a b i (ss, u) = (
  ss ++ (Switch u.actor b ∷ []),
  record { final = _; run = run_then u.run (goes (switch u.acted i u.holds) ends); acted = Memᴰ.head refl },
)

pub acting_is_using : ActingIsUsing
acting_is_using L s a b i =
    (λ h e r _ u. act_then_use L a b h e r u, λ f. use_then_act L a b i (f b Impersonate (is_stands L i) (use_self L s b i)))
