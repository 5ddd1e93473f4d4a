-- The steps of a list that are done when those that are not allowed are skipped.
use Rattle.std.specs.Prelude.{◌≡◌, ℕ, ◌+◌, List, [], ◌∷◌, ◌++◌, take, drop, vec_items}
use Rattle.access.specs.Lists.{Lists}
use Rattle.runs.specs.declared.steps.Step.{Step}
use Rattle.runs.specs.States.{State}
use Rattle.runs.specs.Runs.{Allowed, after}
use Rattle.replay.specs.Situations.{Situation, state_in}

-- from a state, the steps of the first list are played, those of the second are done, and the last state is come to
pub data Plays (L : Lists) : State → List Step → List Step → State → Type 0 where
  ends : {S : State} → Plays L S [] [] S
  does : {S : State} {s : Step} {ss ts : List Step} {T : State} → Allowed L S s → Plays L (after S s) ss ts T → Plays L S (s ∷ ss) (s ∷ ts) T
  skips : {S : State} {s : Step} {ss ts : List Step} {T : State} → (Allowed L S s → ⊥) → Plays L S ss ts T → Plays L S (s ∷ ss) ts T

-- what a run has come to once more steps are played
pub record Played (old : Situation) (steps : List Step) (new : Situation) : Type 0 where
  pub lists : new.lists ≡ old.lists
  pub taken : List Step
  pub plays : Plays old.lists (state_in old) steps taken (state_in new)
  pub kept : vec_items new.came.steps ≡ vec_items old.came.steps ++ taken

-- the list without n elements from the i-th on
abbrev pub left_out : {A : Type 0} → ℕ → ℕ → List A → List A
left_out i n xs = take i xs ++ drop (i + n) xs
