-- A replay has one outcome.
use Rattle.std.proofs.Common.{◌≡◌, ℕ, zero, suc, ◌<◌, List, [], ◌∷◌, take, Some, Ok, Result, refl, ◌∙◌, subst, ⊎_elim, arith}
use Rattle.std.specs.List.{slice_get}
use Rattle.std.proofs.lemmas.Bool.{cases_order}
use Rattle.std.proofs.lemmas.List.{take-take}
use Rattle.std.proofs.lemmas.Option.{none-some, same_Some}
use Rattle.access.specs.declared.rights.Right.{Right}
use Rattle.access.specs.Codes.{Code}
use Rattle.access.specs.Lists.{Lists}
use Rattle.runs.specs.declared.steps.Step.{Step}
use Rattle.runs.specs.States.{State, start}
use Rattle.runs.specs.Runs.{Allowed, Run, ends, goes}
use Rattle.replay.specs.Replays.{Stops, Comes, Ends, stopped, missing, accepted, Replays, declined, too_many, asked}
use Rattle.replay.specs.Laws.{OneOutcome, AcceptsRuns, Accepted}
use Rattle.replay.proofs.Playing.{run_same}

-- in a run, each step is allowed after those before it
record Reached (L : Lists) (S : State) (ss : List Step) (k : ℕ) (t : Step) : Type 0 where
  state : State
  run : Run L S (take k ss) state
  allowed : Allowed L state t

module _ {L : Lists} where
  run_at : (ss : List Step) {S T : State} (k : ℕ) (t : Step) → Run L S ss T → slice_get ss k ≡ Some t → Reached L S ss k t
  run_at [] k t ends e = absurd (none-some t e)
  run_at (s ∷ ss) {S} zero t (goes h r) e = record { state = S; run = ends; allowed = subst (Allowed L S) (same_Some s t e) h }
  run_at (s ∷ ss) (suc k) t (goes h r) e =
      let m = run_at ss k t r e in
      record { state = m.state; run = goes h m.run; allowed = m.allowed }

slice_get-take : {A : Type 0} (m : ℕ) (xs : List A) (k : ℕ) → k < m → slice_get (take m xs) k ≡ slice_get xs k
slice_get-take zero xs k h = absurd (omega arith)
slice_get-take (suc m) [] k h = refl
slice_get-take (suc m) (x ∷ xs) zero h = refl
slice_get-take (suc m) (x ∷ xs) (suc k) h = slice_get-take m xs k (omega arith)

module _ {L : Lists} {S : State} {steps : List Step} where
  -- a run does not go past a step that is not allowed
  run_past : {T : State} {k : ℕ} → Run L S steps T → Stops L S steps k → ⊥
  run_past {k = k} r s =
      let m = run_at steps k s.step r s.there in
      s.refused (subst (λ (U : State). Allowed L U s.step) (run_same m.run s.run) m.allowed)

  stops_past : (k m : ℕ) → k < m → Stops L S steps k → Stops L S steps m → ⊥
  stops_past k m h s u =
      let at = run_at (take m steps) k s.step u.run (slice_get-take m steps k h ∙ s.there) in
      let run = rw (take-take k m steps (omega arith)) at at.run in
      s.refused (subst (λ (U : State). Allowed L U s.step) (run_same run s.run) at.allowed)

  stops_same : (k m : ℕ) → Stops L S steps k → Stops L S steps m → k ≡ m
  stops_same k m s u =
      ⊎_elim (λ e. e) (⊎_elim (λ h. absurd (stops_past k m h s u)) (λ h. absurd (stops_past m k h u s))) (cases_order k m)

-- what the steps come to, they come to by a run
comes_past : {L : Lists} {a k : ℕ} {steps : List Step} (sense e : ℕ) (right : Right) → Comes L a sense steps e right → Stops L (start L a) steps k → ⊥
comes_past zero e right u s = run_past u.run s
comes_past (suc sense) e right u s = run_past u.run s

module _ {L : Lists} {a e : ℕ} {right : Right} {steps : List Step} where
  ends_same : {sense : ℕ} {x y : Result (Unit {0}) Code} → Ends L a sense e right steps x → Ends L a sense e right steps y → x ≡ y
  ends_same (stopped {k = k} s) (stopped {k = m} u) = let same = stops_same k m s u in cc
  ends_same (stopped s) (missing r n) = absurd (run_past r s)
  ends_same {sense} (stopped s) (accepted u) = absurd (comes_past sense e right u s)
  ends_same (missing r n) (stopped s) = absurd (run_past r s)
  ends_same (missing r n) (missing q m) = refl
  ends_same (missing r n) (accepted u) = absurd (n u)
  ends_same {sense} (accepted u) (stopped s) = absurd (comes_past sense e right u s)
  ends_same (accepted u) (missing r n) = absurd (n u)
  ends_same (accepted u) (accepted v) = refl

pub one_outcome : OneOutcome
one_outcome L a sense e r steps x y p q = go p q
  where
    go : {x y : Result (Unit {0}) Code} → Replays L a sense e r steps x → Replays L a sense e r steps y → x ≡ y
    go (declined j) (declined k) = cc
    go (declined j) (too_many k h) = cc
    go (declined j) (asked k h n) = cc
    go (too_many k h) (declined j) = cc
    go (too_many k h) (too_many j g) = refl
    go (too_many k h) (asked j g n) = absurd (omega arith)
    go (asked k h n) (declined j) = cc
    go (asked k h n) (too_many j g) = absurd (omega arith)
    go {x} (asked {right = t} k h n) (asked {right = u} j g m) =
        let same : t ≡ u = cc in ends_same (subst (λ (v : Right). Ends L a sense e v steps x) same n) m

pub accepts_runs : AcceptsRuns
accepts_runs L a sense e r steps = (λ p. go p refl, λ q. asked q.question q.few (accepted q.comes))
  where
    ended : {right : Right} {x : Result (Unit {0}) Code} → Ends L a sense e right steps x → x ≡ Ok tt → Comes L a sense steps e right
    ended (stopped s) q = let no : ⊥ = cc in absurd no
    ended (missing s n) q = let no : ⊥ = cc in absurd no
    ended (accepted u) q = u

    go : {x : Result (Unit {0}) Code} → Replays L a sense e r steps x → x ≡ Ok tt → Accepted L a sense e r steps
    go (declined j) q = let no : ⊥ = cc in absurd no
    go (too_many j h) q = let no : ⊥ = cc in absurd no
    go (asked {right = t} j h n) q = record { right = t; question = j; few = h; comes = ended n q }
