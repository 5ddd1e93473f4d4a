-- What is known of a line of the catalogue whose object was entered.
use Rattle.std.proofs.Common.{◌≡◌, ℕ, ◌<◌, subst}
use Rattle.access.specs.declared.code.Object.{Object}
use Rattle.access.specs.declared.code.Action.TheVariants as action
use Rattle.access.specs.declared.code.Line.{Line}
use Rattle.access.specs.Lists.{◌∈◌, Lists}
use Rattle.runs.specs.Standing.{IsObject}
use Rattle.runs.specs.States.{pair}
use Rattle.runs.specs.Runs.{worker}
use Rattle.runs.proofs.Grounds.{calls, runners, IsCall, to}
use Rattle.runs.proofs.Realizing.{worker_account}
use Rattle.fitting.proofs.Smalls.{is_small, object_small}
use Rattle.lookup.specs.Tables.{SmallEntry}
use Rattle.session.specs.Reached.{state_of}
use Rattle.session.specs.declared.states.RunState.{RunState}
use Rattle.saturation.specs.Progress.{Goes}
use Rattle.saturation.proofs.Standing.{peopled, entered_small}

called_object : {L : Lists} {y : Object} → IsCall L (action.Call y) → IsObject L y
called_object (to i) = i

module _ {L : Lists} {s : RunState} (g : Goes L s) {l : Line} (m : l ∈ L.lines) {v : ℕ} (n : pair l.object v ∈ (state_of L s).entered) where
  pub worker_small : worker l.runner v < 96
  worker_small = is_small g.ran.sound (worker_account L g.ran.sound ((peopled g.ran).entered _ n).1 (runners L g.ran.sound l m))

  pub called_small : {y : Object} → l.action ≡ action.Call y → SmallEntry (pair y v)
  called_small e = (object_small g.ran.sound (called_object (subst (λ t. IsCall L t) e (calls L g.ran.sound l m))), (entered_small _ g n).1)
