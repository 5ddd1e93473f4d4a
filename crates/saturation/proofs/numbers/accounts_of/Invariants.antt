use Rattle.std.proofs.Common.{◌≡◌, ℕ, ◌<◌, true}
use Rattle.access.specs.declared.entities.Kind.TheVariants.{Account}
use Rattle.access.specs.Bits.{bit}
use Rattle.runs.specs.Standing.{Is}
use Rattle.session.specs.Models.{lists_of}
use Rattle.saturation.proofs.numbers.accounts_of.Given as goal

-- the accounts before x are in the set
abbrev pub invariant-loop-x : goal.invariant-loop-x
invariant-loop-x l = (v : ℕ) → v < l.x → Is (lists_of l.model) Account v → bit l.accounts v ≡ true
