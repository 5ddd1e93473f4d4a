use Rattle.std.proofs.Common.{◌≡◌, ℕ, ◌<◌, ◌≤◌, true, false, vec_len}
use Rattle.session.specs.Models.{lists_of}
use Rattle.witness.specs.Lean.{ComesTo}
use Rattle.witness.specs.Plays.{left_out}
use Rattle.witness.proofs.shortening.pass.Given as goal

-- what the passes keep; of single steps, each from the end on is missed as long as none was left out
abbrev pub invariant-loop-end : goal.invariant-loop-end
invariant-loop-end l = record {
  comes : ComesTo (lists_of l.model) l.question l.list.items.items;
  within : l.end ≤ vec_len l.list.items;
  few : vec_len l.list.items ≤ vec_len l.initial.list.items;
  shorter : l.any ≡ true → vec_len l.list.items < vec_len l.initial.list.items;
  missed : l.any ≡ false → l.size ≡ 1 → (i : ℕ) → l.end ≤ i → i < vec_len l.list.items → ComesTo (lists_of l.model) l.question (left_out i 1 l.list.items.items) → ⊥;
}

abbrev pub decreases-loop-end : goal.decreases-loop-end
decreases-loop-end l = l.end
