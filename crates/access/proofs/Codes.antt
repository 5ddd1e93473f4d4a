-- A code is of one refusal, so that a clause that gives the code says which refusal it is.
use Rattle.std.proofs.Common.{rules, ◌≡◌}
use Rattle.access.specs.declared.refusals.Refusal.{Refusal}
use Rattle.access.specs.declared.refusals.Refusal.TheVariants.{NotListed, WrongKind, NotGiven, Circular, Full, NoRoom, Unreadable, NotAllowed}
use Rattle.access.specs.Codes.{code}

pub code_same : (r q : Refusal) → code r ≡ code q → r ≡ q
code_same = search rules
