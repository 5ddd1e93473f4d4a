-- Runs that are played one step after the other.
use Rattle.std.proofs.Common.{◌≡◌, ℕ, zero, suc, ◌+◌, ◌<◌, List, length, get_or, take, Some, None, Option, unwrap_or, refl, subst}
use Rattle.std.proofs.lemmas.List.{take_more}
use Rattle.std.proofs.lemmas.Option.{slice_get-get_or}
use Rattle.std.proofs.lemmas.Bool.{not-false}
use Rattle.access.specs.declared.entities.Kind.TheVariants.{Account}
use Rattle.access.specs.declared.rights.Right.{Right}
use Rattle.access.specs.declared.rights.Right.TheVariants.{Select}
use Rattle.access.specs.Lists.{Lists}
use Rattle.access.specs.Numbers.{right_at}
use Rattle.catalogue.specs.Sound.{Sound}
use Rattle.catalogue.proofs.Judging.{judged_ok}
use Rattle.runs.specs.declared.steps.Step.{Step}
use Rattle.runs.specs.Standing.{Is}
use Rattle.runs.specs.States.{State, start}
use Rattle.runs.specs.Runs.{Allowed, after, Run, ends, goes}
use Rattle.runs.proofs.Growing.{run_then}
use Rattle.runs.proofs.Grounds.{account_is}
use Rattle.session.proofs.Rowing.{rowed_any}
use Rattle.replay.specs.declared.courses.Seen.{Seen}
use Rattle.replay.specs.Keeping.{SeenTells, SameRecords}
use Rattle.replay.specs.declared.questions.Question.{Question}
use Rattle.replay.specs.Questions.{Asks}
use Rattle.replay.specs.Replays.{Stops, HeldBy, Comes, question_reasons}
use Rattle.fitting.proofs.Smalls.{is_small}

pub run_same : {L : Lists} {S T U : State} {ss : List Step} → Run L S ss T → Run L S ss U → T ≡ U
run_same ends ends = refl
run_same (goes h r) (goes k q) = run_same r q

-- rows tell of the state after a step that leaves the records
pub seen_stays : (L : Lists) (S : State) {t : Step} → SameRecords t → (seen : Option Seen) → SeenTells L S seen → SeenTells L (after S t) seen
seen_stays L S q None w = tt
seen_stays L S {t} q (Some s) w =
    rowed_any L s.account s.rows.holds.sets s.rows.grants.sets S (after S t)
    (record { rights = λ x m. rw (q.rights S) m; members = λ x m. rw (q.members S) m })
    (record { rights = λ x m. rw (q.rights S) at m; members = λ x m. rw (q.members S) at m })
    w

-- one step more
pub run_more : {L M : Lists} {S T : State} {i : ℕ} (steps : List Step) (d : Step) → M ≡ L → i < length steps → Run L S (take i steps) T
    → Allowed M T (get_or steps i d) → Run L S (take (i + 1) steps) (after T (get_or steps i d))
run_more {T = T} {i} steps d e h r a =
    rw (take_more steps i d h) (run_then r (goes (subst (λ (N : Lists). Allowed N T (get_or steps i d)) e a) ends))

pub stops_here : {L M : Lists} {S T : State} {steps : List Step} {i : ℕ} (d : Step) → M ≡ L → i < length steps → Run L S (take i steps) T
    → (Allowed M T (get_or steps i d) → ⊥) → Stops L S steps i
stops_here {T = T} {steps} {i} d e h r n =
    let refused = subst (λ (N : Lists). Allowed N T (get_or steps i d) → ⊥) e n in
    record { reached = T; run = r; step = get_or steps i d; there = slice_get-get_or steps i d h; refused = refused }

module _ {L M : Lists} {a : ℕ} {steps : List Step} {T : State} (e : ℕ) (right : Right) (run : Run L (start L a) steps T) (same : M ≡ L) where
  pub comes_to : (sense : ℕ) → HeldBy M T a sense e right → Comes L a sense steps e right
  comes_to zero h = record { final = T; run = run; actor = h.0; acted = h.1; holds = rw (← same) h.2 }
  comes_to (suc sense) h = record { final = T; run = run; holds = rw (← same) h }

  pub comes_from : (sense : ℕ) → Comes L a sense steps e right → HeldBy M T a sense e right
  comes_from zero u = let ran = run_same u.run run in (u.actor, rw ran at u.acted, rw (ran, ← same) at u.holds)
  comes_from (suc sense) u = rw (run_same u.run run, ← same) at u.holds

-- a question that is not refused is of an account
pub question_account : {L : Lists} {a s e r : ℕ} {q : Question} → Asks L.entities a s e r q → Is L Account q.account
question_account {L} {a} {s} {e} {r} {q} asks =
    let ok = judged_ok (question_reasons L.entities a s e r) (unwrap_or (right_at r) Select) q.right asks.right in
    rw asks.account (account_is L a (not-false _ ok.0.1.0))

pub question_small : {L : Lists} {a s e r : ℕ} {q : Question} → Sound L → Asks L.entities a s e r q → q.account < 96
question_small sound asks = is_small sound (question_account asks)
