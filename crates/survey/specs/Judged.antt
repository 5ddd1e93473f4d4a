-- Of which accounts a row is asked.
use Rattle.std.specs.Prelude.{ℕ, not, List, [], ◌∷◌, ◌++◌, nat_lt, Result}
use Rattle.std.specs.List.{list_all}
use Rattle.access.specs.declared.refusals.Refusal.TheVariants.{NotListed, WrongKind, NoRoom}
use Rattle.access.specs.declared.entities.Entity.{Entity}
use Rattle.access.specs.Codes.{Code, code}
use Rattle.access.specs.Lists.{stands, fits, is_account}
use Rattle.catalogue.specs.Judgements.{Reason, judged}

-- one of the numbers is of no entity, or of none that is an account
abbrev pub account_reasons : List Entity → List ℕ → List Reason
account_reasons es accounts =
    (not (list_all (λ a. stands es a) accounts), code NotListed) ∷ (not (list_all (λ a. fits is_account es a) accounts), code WrongKind) ∷ []

-- nothing for accounts, or why the numbers are refused
abbrev pub judged_accounts : List Entity → List ℕ → Result (Unit {0}) Code
judged_accounts es accounts = judged (account_reasons es accounts) tt

-- the same, where a row is to be written into a room of n bytes
abbrev pub judged_row : List Entity → ℕ → ℕ → Result (Unit {0}) Code
judged_row es a n = judged (account_reasons es (a ∷ []) ++ (nat_lt n 96, code NoRoom) ∷ []) tt
