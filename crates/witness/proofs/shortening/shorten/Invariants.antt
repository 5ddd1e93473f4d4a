use Rattle.std.proofs.Common.{ℕ, ◌≤◌, vec_len}
use Rattle.session.specs.Models.{lists_of}
use Rattle.session.specs.declared.lists.StepList.{StepList}
use Rattle.session.specs.declared.models.Model.{Model}
use Rattle.replay.specs.declared.questions.Question.{Question}
use Rattle.witness.specs.Lean.{ComesTo}
use Rattle.witness.proofs.shortening.shorten.Given as goal

-- the list is still a run to the right, and no longer
abbrev Kept : Model → Question → ℕ → StepList → Type 0
Kept model q n list = record {
  comes : ComesTo (lists_of model) q list.items.items;
  few : vec_len list.items ≤ n;
}

abbrev pub invariant-loop-size : goal.invariant-loop-size
invariant-loop-size l = Kept l.model l.question (vec_len l.initial.list.items) l.list

abbrev pub decreases-loop-size : goal.decreases-loop-size
decreases-loop-size l = l.size

abbrev pub invariant-loop : goal.invariant-loop
invariant-loop l = Kept l.model l.question (vec_len l.fn.list.items) l.list

abbrev pub decreases-loop : goal.decreases-loop
decreases-loop l = vec_len l.list.items
