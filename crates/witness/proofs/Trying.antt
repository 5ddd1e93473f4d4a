-- What is come to without some steps of a list.
use Rattle.std.proofs.Common.{◌≡◌, ℕ, zero, suc, ◌+◌, ◌≤◌, List, [], ◌++◌, length, take, drop, vec_items, ap, subst, sym, ◌∙◌, length-append, length-take, length-drop, arith}
use Rattle.std.proofs.lemmas.List.{take-append-drop}
use Rattle.access.specs.declared.rights.Right.{Right}
use Rattle.access.specs.Lists.{Lists}
use Rattle.runs.specs.declared.steps.Step.{Step}
use Rattle.runs.specs.States.{State, start}
use Rattle.runs.specs.Runs.{Run}
use Rattle.replay.specs.Situations.{Situation, state_in}
use Rattle.replay.specs.declared.questions.Question.{Question}
use Rattle.replay.specs.Questions.{sense_number}
use Rattle.replay.specs.Replays.{HeldBy, Comes}
use Rattle.replay.proofs.Playing.{comes_to, comes_from}
use Rattle.witness.specs.Plays.{Plays, Played, left_out}
use Rattle.witness.specs.Lean.{ComesTo, Shorter}
use Rattle.witness.proofs.Playing.{plays_run, plays_length, plays_same, plays_first}

-- what steps come to, they come to by a run
record Ran (L : Lists) (a : ℕ) (steps : List Step) : Type 0 where
  state : State
  run : Run L (start L a) steps state

comes_run : {L : Lists} {a : ℕ} {steps : List Step} (e : ℕ) (right : Right) (sense : ℕ) → Comes L a sense steps e right → Ran L a steps
comes_run e right zero u = record { state = u.final; run = u.run }
comes_run e right (suc sense) u = record { state = u.final; run = u.run }

module _ {L : Lists} (q : Question) {b c : Situation} (i n : ℕ) (old : List Step)
    (lists : b.lists ≡ L) (begun : state_in b ≡ start L q.account) (none : vec_items b.came.steps ≡ []) (p : Played b (left_out i n old) c) where
  tried : Plays L (start L q.account) (left_out i n old) (vec_items c.came.steps) (state_in c)
  tried =
      let taken : vec_items c.came.steps ≡ p.taken = p.kept ∙ ap (λ xs. xs ++ p.taken) none in
      rw taken (rw (begun, lists) at p.plays)

  pub tried_length : i + n ≤ length old → length (vec_items c.came.steps) + n ≤ length old
  tried_length h = omega (arith, simp (length-append, length-take, length-drop) at (plays_length tried))

  pub tried_shorter : i + n ≤ length old → ComesTo L q old → HeldBy c.lists (state_in c) q.account (sense_number q.sense) q.entity q.right
      → Shorter L q i n old (vec_items c.came.steps)
  tried_shorter h u held =
      let ran = comes_run q.entity q.right (sense_number q.sense) u in
      let run = subst (λ (ss : List Step). Run L (start L q.account) ss ran.state) (sym (take-append-drop i old)) ran.run in
      record {
        comes = comes_to q.entity q.right (plays_run tried) (p.lists ∙ lists) (sense_number q.sense) held;
        begins = omega (arith, simp length-take at (plays_first (take i old) (drop i old) (drop (i + n) old) run tried));
        length = tried_length h;
      }

  pub tried_missed : (HeldBy c.lists (state_in c) q.account (sense_number q.sense) q.entity q.right → ⊥) → ComesTo L q (left_out i n old) → ⊥
  tried_missed none_holds u =
      let ran = comes_run q.entity q.right (sense_number q.sense) u in
      let run = subst (Run L (start L q.account) (left_out i n old)) (sym (plays_same ran.run tried)) ran.run in
      none_holds (comes_from q.entity q.right run (p.lists ∙ lists) (sense_number q.sense) u)
