-- What is returned to whom asks for a list of steps.
use Rattle.std.specs.Prelude.{◌≡◌, ℕ, ◌<◌, ◌≤◌, List, length, take, drop, Some, None, Option, Ok, Err, Result}
use Rattle.access.specs.declared.refusals.Refusal.TheVariants.{NoRoom}
use Rattle.access.specs.declared.rights.Right.{Right}
use Rattle.access.specs.Codes.{Code, code}
use Rattle.access.specs.Lists.{Lists}
use Rattle.runs.specs.declared.steps.Step.{Step}
use Rattle.replay.specs.Replays.{judged_question, Comes, Replays}
use Rattle.witness.specs.Lean.{Lean}

-- what is returned, and what the caller's room becomes
pub data Witnesses (L : Lists) (a sense e r : ℕ) (old new : List Step) : Result (Option ℕ) Code → Type 0 where
  declined : {c : Code} → judged_question L.entities a sense e r ≡ Err c → new ≡ old → Witnesses L a sense e r old new (Err c)
  no_room : {right : Right} → judged_question L.entities a sense e r ≡ Ok right → length old < 4096 → new ≡ old
      → Witnesses L a sense e r old new (Err (code NoRoom))
  missing : {right : Right} → judged_question L.entities a sense e r ≡ Ok right → 4096 ≤ length old
      → ((steps : List Step) → Comes L a sense steps e right → ⊥) → new ≡ old → Witnesses L a sense e r old new (Ok None)
  -- the first n steps of the room are a run that a replay accepts, each is missed, and the rest of the room is left
  found : {right : Right} {n : ℕ} → judged_question L.entities a sense e r ≡ Ok right → 4096 ≤ length old → n ≤ 4096
      → Replays L a sense e r (take n new) {X = Unit {0}} (Ok tt) → Lean L a sense e right (take n new)
      → drop n new ≡ drop n old → length new ≡ length old → Witnesses L a sense e r old new (Ok (Some n))
