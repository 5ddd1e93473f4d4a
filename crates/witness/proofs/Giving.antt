-- A list that is put into the caller's room is what was asked for.
use Rattle.std.proofs.Common.{◌≡◌, ℕ, zero, suc, ◌≤◌, List, length, take, drop, Some, Ok, arith}
use Rattle.access.specs.declared.rights.Right.{Right}
use Rattle.access.specs.Lists.{Lists}
use Rattle.runs.specs.declared.steps.Step.{Step}
use Rattle.runs.specs.States.{State}
use Rattle.runs.specs.Laws.{Tells}
use Rattle.replay.specs.declared.questions.Question.{Question}
use Rattle.replay.specs.Questions.{Asks}
use Rattle.replay.specs.Replays.{HeldBy, Comes, accepted, asked}
use Rattle.witness.specs.Lean.{ComesTo, LeanTo}
use Rattle.witness.specs.Witnesses.{Witnesses, found}

pub handed : {L : Lists} {a sense e r n : ℕ} {q : Question} {old new : List Step} (list : List Step) → Asks L.entities a sense e r q → 4096 ≤ length old
    → ComesTo L q list → LeanTo L q list → length list ≤ 4096 → n ≡ length list → take n new ≡ list → drop n new ≡ drop n old → length new ≡ length old
    → Witnesses L a sense e r old new (Ok (Some n))
handed {L} {a} {sense} {e} {r} {n} {q} {old} {new} list asks room comes lean few count put rest same =
    let comes_here = rw (asks.account, asks.sense, asks.entity) at comes in
    let lean_here = rw (asks.account, asks.sense, asks.entity) at lean in
    found asks.right room (omega arith) (rw put (asked asks.right few (accepted comes_here))) (rw put lean_here) rest same

-- a state that tells what can be come to has the right of any steps that come to it
pub comes_held : {L : Lists} {a : ℕ} {S : State} (e : ℕ) (right : Right) (steps : List Step) → Tells L a S → (sense : ℕ) → Comes L a sense steps e right → HeldBy L S a sense e right
comes_held e right steps t zero m = (t.uses e right).0 (steps, m)
comes_held e right steps t (suc sense) m = (t.holds e right).0 (steps, m)
