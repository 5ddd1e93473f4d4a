-- Marks that a loop over entities makes.
use Rattle.std.proofs.Common.{◌≡◌, ℕ, ◌+◌, ◌≤◌, Bool, false, ◌&&◌, ◌||◌, eqb, ltb, refl, arith}
use Rattle.std.proofs.lemmas.Bool.Decides.{nat_tests}
use denote.Enum.Bare.{sameb}
use Rattle.access.specs.contracts.entities.Kind.{the_type}
use Rattle.access.specs.declared.entities.Kind.{Kind}
use Rattle.access.specs.declared.entities.Kind.TheVariants.{Container, Table, Procedure, Account, Role}
use Rattle.access.specs.Numbers.{kind_number}

-- a test of kinds, as code writes it
pub kind_same : (k j : Kind) → sameb the_type k j ≡ eqb (kind_number k) (kind_number j)
kind_same Container Container = refl
kind_same Container Table = refl
kind_same Container Procedure = refl
kind_same Container Account = refl
kind_same Container Role = refl
kind_same Table Container = refl
kind_same Table Table = refl
kind_same Table Procedure = refl
kind_same Table Account = refl
kind_same Table Role = refl
kind_same Procedure Container = refl
kind_same Procedure Table = refl
kind_same Procedure Procedure = refl
kind_same Procedure Account = refl
kind_same Procedure Role = refl
kind_same Account Container = refl
kind_same Account Table = refl
kind_same Account Procedure = refl
kind_same Account Account = refl
kind_same Account Role = refl
kind_same Role Container = refl
kind_same Role Table = refl
kind_same Role Procedure = refl
kind_same Role Account = refl
kind_same Role Role = refl

-- one entity more is noted under its owner
pub owner_more : (e x o owner : ℕ) (test old new one : Bool) → old ≡ (ltb e x && (test && ltb o 96)) → new ≡ (old || ((eqb o owner && ltb owner 96) && one))
    → one ≡ eqb e x → (e ≡ x → test ≡ eqb o owner) → new ≡ (ltb e (x + 1) && (test && ltb o 96))
owner_more e x o owner test old new one h f same at = grind (arith, nat_tests)

-- all entities are done
pub all_marked : (k n : ℕ) (test new : Bool) → new ≡ (ltb k n && test) → (n ≤ k → test ≡ false) → new ≡ test
all_marked k n test new e past = grind (arith, nat_tests)
