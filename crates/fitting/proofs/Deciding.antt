-- Tests that tell what stands and fits, from tests that tell its parts.
use Rattle.std.proofs.Common.{◌≡◌, ℕ, Bool, true, false, eqb, Some, Decides, refl}
use Rattle.std.specs.List.{slice_get}
use Rattle.std.proofs.lemmas.Bool.{both_ways, eqb-true, eq-eqb}
use Rattle.access.specs.declared.entities.Entity.{Entity}
use Rattle.access.specs.declared.entities.Kind.TheVariants as kind
use Rattle.access.specs.declared.entities.Mode.TheVariants.{Parent}
use Rattle.access.specs.declared.rights.RightRecord.{RightRecord}
use Rattle.access.specs.declared.roles.Member.{Member}
use Rattle.access.specs.declared.code.Event.{Event}
use Rattle.access.specs.declared.code.Object.{Object}
use Rattle.access.specs.declared.code.Object.TheVariants as object
use Rattle.access.specs.declared.code.Action.TheVariants as action
use Rattle.access.specs.Lists.{Lists}
use Rattle.access.specs.Places.{place_of}
use Rattle.runs.specs.Standing.{Is, OneOwner, IsObject, a_procedure, a_trigger, created, Principal, Stands, Proper, a_call, a_grant, a_join}

pub told : {P : Type 0} {r : Bool} → r ≡ true → P → Decides r P
told e p = (λ _. p, λ _. e)

pub not_told : {P : Type 0} {r : Bool} → r ≡ false → (P → ⊥) → Decides r P
not_told e n = (λ t. absurd (both_ways _ e t), λ p. absurd (n p))

module _ {L : Lists} where
  pub procedure_from : {n : ℕ} → IsObject L (object.Procedure n) → Is L kind.Procedure n
  procedure_from (a_procedure i) = i

  pub trigger_from : {n : ℕ} {v : Event} → IsObject L (object.Triggers n v) → Is L kind.Table n
  trigger_from (a_trigger i) = i

  pub created_to : {n : ℕ} → (e : Entity) × (slice_get L.entities n ≡ Some e) × (e.kind ≡ kind.Container) × (e.mode ≡ Parent) → IsObject L (object.Created n)
  created_to (e, p, k, m) = created (record { entity = e; there = p; kind = k }) m

  pub created_from : {n : ℕ} → IsObject L (object.Created n) → (e : Entity) × (slice_get L.entities n ≡ Some e) × (e.kind ≡ kind.Container) × (e.mode ≡ Parent)
  created_from (created i m) = (i.entity, i.there, i.kind, m)

  pub call_from : {y : Object} → Proper L (action.Call y) → IsObject L y
  call_from (a_call i) = i

  pub grant_from : {g : RightRecord} → Proper L (action.Grant g) → Principal L g.principal × Stands L g.entity
  grant_from (a_grant p s) = (p, s)

  pub join_from : {m : Member} → Proper L (action.Join m) → Is L kind.Account m.account × Is L kind.Role m.role
  join_from (a_join a q) = (a, q)

  owner_same : {x y : Object} {a b : Entity} → slice_get L.entities (place_of x) ≡ Some a → slice_get L.entities (place_of y) ≡ Some b → OneOwner L x y → a.owner ≡ b.owner
  owner_same p q o = cc

  pub owner_told : {x y : Object} {a b : Entity} → slice_get L.entities (place_of x) ≡ Some a → slice_get L.entities (place_of y) ≡ Some b → Decides (eqb a.owner b.owner) (OneOwner L x y)
  owner_told {a = a} {b} p q = (
    λ t. record {
      owner = b.owner;
      first = record { entity = a; there = p; owner = eqb-true _ _ t };
      second = record { entity = b; there = q; owner = refl };
    },
    λ o. eq-eqb _ _ (owner_same p q o),
  )
