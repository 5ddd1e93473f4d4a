-- What a record notes.
use Rattle.std.specs.Prelude.{◌≡◌, ℕ, ◌<◌, Bool, ◌&&◌, ◌||◌, List, ◌==◌}
use Rattle.access.specs.declared.rights.RightRecord.{RightRecord}
use Rattle.access.specs.declared.roles.Member.{Member}
use Rattle.access.specs.declared.sets.RightSet.{RightSet}
use Rattle.access.specs.Lists.{public}
use Rattle.access.specs.Numbers.{right_number}
use Rattle.access.specs.Sets.{told}

-- each entity gets the marks that p gives it, beside those that it had
abbrev pub Adds : List RightSet → List RightSet → (ℕ → ℕ → Bool) → Type 0
Adds old new p = (x k : ℕ) → x < 96 → told new x k ≡ (told old x k || p x k)

-- the record gives everyone right k on e, with the option
abbrev pub opens : ℕ → ℕ → RightRecord → Bool
opens e k g = (g.principal == public && g.option) && (e == g.entity && k == right_number g.right)

-- the record puts account a into role q
abbrev pub joins : ℕ → ℕ → Member → Bool
joins q a m = q == m.role && a == m.account
