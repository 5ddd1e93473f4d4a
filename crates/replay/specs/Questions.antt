-- What a replay is asked.
use Rattle.std.specs.Prelude.{◌≡◌, ℕ, List, [], ◌∷◌, Ok, Option}
use Rattle.std.specs.List.{slice_get}
use Rattle.access.specs.declared.entities.Entity.{Entity}
use Rattle.replay.specs.declared.questions.Sense.{Sense}
use Rattle.replay.specs.declared.questions.Sense.TheVariants.{Use, Hold}
use Rattle.replay.specs.declared.questions.Question.{Question}
use Rattle.replay.specs.Replays.{judged_question}

-- the senses in the order of their numbers, from 0
abbrev pub sense_at : ℕ → Option Sense
sense_at n = slice_get (Use ∷ Hold ∷ []) n

abbrev pub sense_number : Sense → ℕ
sense_number Use = 0
sense_number Hold = 1

-- the question is the one that the numbers ask, and is not refused
pub record Asks (es : List Entity) (a s e r : ℕ) (q : Question) : Type 0 where
  pub account : q.account ≡ a
  pub sense : sense_number q.sense ≡ s
  pub entity : q.entity ≡ e
  pub right : judged_question es a s e r ≡ Ok q.right
