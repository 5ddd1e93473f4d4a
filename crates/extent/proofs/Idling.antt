-- A line that can add nothing needs not be followed.
use Rattle.std.proofs.Common.{◌≡◌, ℕ, true, ◌⊎◌, sym, refl, ap, ◌∙◌, subst, inl, inr, ⊎_elim}
use Rattle.std.proofs.lemmas.Bool.{both_ways}
use Rattle.access.specs.declared.code.Object.{Object}
use Rattle.access.specs.declared.code.Runner.{Runner}
use Rattle.access.specs.declared.code.Runner.TheVariants as runner
use Rattle.access.specs.declared.code.Action.TheVariants as action
use Rattle.access.specs.declared.code.Line.{Line}
use Rattle.access.specs.Bits.{bit}
use Rattle.access.specs.Lists.{◌∈◌, Lists}
use Rattle.access.specs.Numbers.{right_number}
use Rattle.access.specs.Places.{place_of}
use Rattle.catalogue.specs.Sound.{Sound}
use Rattle.grid.specs.Grids.{noted}
use Rattle.runs.specs.Standing.{OneOwner, entry_right}
use Rattle.runs.specs.Runs.{worker}
use Rattle.holdings.specs.declared.calls.Call.{Call}
use Rattle.holdings.specs.declared.tables.Holdings.{Holdings}
use Rattle.holdings.specs.Calls.{Calls}
use Rattle.holdings.specs.Told.{Told}
use Rattle.holdings.proofs.Calling.{called_object}
use Rattle.extent.specs.declared.extents.Extent.{Extent}
use Rattle.extent.specs.Tests.{held, entrant, entry}
use Rattle.extent.specs.Shows.{Came}
use Rattle.extent.specs.Turns.{Followed, Idle}
use Rattle.extent.proofs.Rules.{line_account, line_entrant, enters_again, enterer_held, same_call}

module _ {L : Lists} {h : Holdings} {s : Extent} (sound : Sound L) (told : Told L h) (came : Came L s) (l : Line) (listed : l ∈ L.lines)
    (y : Object) (a : l.action ≡ action.Call y) (c : Call) (n : Calls L l c y) (idle : Idle h s c) where
  runs : (r : Runner) → l.runner ≡ r → (v : ℕ) → ((c.runner ≡ 0) × (worker r v ≡ v)) ⊎ (bit c.runner (worker r v) ≡ true)
  runs runner.Caller e v = inl (n.caller e, refl)
  runs (runner.Account w) e v = inr (n.account w e)

  lets_in : (v : ℕ) → entrant s l.object v ≡ true
      → (held h s (worker l.runner v) (right_number (entry_right y)) (place_of y) ≡ true) ⊎ OneOwner L l.object y → entry s y (worker l.runner v) ≡ true
  lets_in v t may =
      let w = worker l.runner v in
      let is = line_account sound came l listed v t in
      ⊎_elim
      (λ e. enters_again sound came l listed v t y a (ap (λ m. noted s.entrants.rows m w) (sym n.called) ∙ e))
      (λ (owner, everyone, some).
      ⊎_elim
      (λ k. absurd (both_ways _ (ap (λ m. noted h.enterers.rows m w) (sym n.called) ∙ some)
      ((enterer_held told y w (called_object sound l listed y a) is s).1
      (ap (λ m. noted s.holds.rows m (place_of y)) (sym n.right) ∙ ap (λ m. noted s.holds.rows c.right m) (sym n.place) ∙ everyone) k)))
      (λ o. absurd (both_ways _ owner (n.owner.1 o)))
      may)
      (idle.none v w (ap (λ m. noted s.entrants.rows m v) n.at ∙ t) (runs l.runner refl v))

  pub idle_followed : Followed L h l s s
  idle_followed = record {
    entered = λ v z i e b may.
        let same : y ≡ z = same_call (sym a ∙ b) in
        subst (λ x. entry s x (worker l.runner v) ≡ true) same
        (lets_in v (line_entrant sound came l listed v i e)
        (subst (λ x. (held h s (worker l.runner v) (right_number (entry_right x)) (place_of x) ≡ true) ⊎ OneOwner L l.object x) (sym same) may));
  }

-- the same of any line whose numbers are told: it calls some object
pub idle_line : {L : Lists} {h : Holdings} {s : Extent} (sound : Sound L) → Told L h → Came L s → (l : Line) → l ∈ L.lines → (c : Call)
    → ((y : Object) → l.action ≡ action.Call y → Calls L l c y) → Idle h s c → Followed L h l s s
idle_line sound told came l listed c n idle = record {
  entered = λ v y i e a may. (idle_followed sound told came l listed y a c (n y a) idle).entered v y i e a may;
}
