-- What is among the numbers of a set of bits.
use Rattle.std.specs.Prelude.{◌≡◌, ℕ, ◌<◌, true}
use Rattle.access.specs.declared.entities.Kind.TheVariants.{Account}
use Rattle.access.specs.Bits.{bit}
use Rattle.access.specs.Lists.{Lists}
use Rattle.runs.specs.Standing.{Is, Owns}

-- all accounts of the catalogue
abbrev pub AllAccounts : Lists → ℕ → Type 0
AllAccounts L bits = (v : ℕ) → v < 96 → Is L Account v → bit bits v ≡ true

-- the owner of entity e
pub record HasOwner (L : Lists) (bits e : ℕ) : Type 0 where
  pub owner : ℕ
  pub owns : Owns L owner e
  pub among : bit bits owner ≡ true
