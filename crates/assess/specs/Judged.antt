-- Why two accounts are not compared.
use Rattle.std.specs.Prelude.{ℕ, [], ◌∷◌, Result}
use Rattle.access.specs.Codes.{Code}
use Rattle.layer.specs.Stands.{Stand}
use Rattle.survey.specs.Judged.{judged_accounts}

-- the numbers are of no two accounts of the book; proposals add no entity
abbrev pub judged_in : Stand → ℕ → ℕ → Result (Unit {0}) Code
judged_in s a b = judged_accounts s.lists.entities (a ∷ b ∷ [])
