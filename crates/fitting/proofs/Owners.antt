-- The owner of an entity has a number below 96.
use Rattle.std.proofs.Common.{◌≡◌, ℕ, zero, suc, ◌<◌, true, ◌||◌, List, [], ◌∷◌, ◌++◌, length, Some, ap, sym, ⊎_elim, arith}
use Rattle.std.specs.List.{slice_get}
use Rattle.std.proofs.lemmas.List.{length_push}
use Rattle.std.proofs.lemmas.Bool.{eqb-true, not-false, and_parts, or_cases}
use Rattle.access.specs.declared.entities.Entity.{Entity}
use Rattle.access.specs.Lists.{Lists, new_entities, stands, is_account}
use Rattle.catalogue.specs.Judgements.{judged_kind, entity_reasons, entity_named, mode_for, own_number}
use Rattle.catalogue.specs.Sound.{Sound, TakesEntity}
use Rattle.catalogue.proofs.Declaring.{declared_ind, taken_ok}
use Rattle.catalogue.proofs.Judging.{judged_ok}
use Rattle.catalogue.proofs.Standing.{nth_below}
use Rattle.runs.specs.Standing.{Owns}
use Rattle.runs.proofs.Grounds.{few, nth_pushed}

-- when an entity was declared, its owner stood, or was its own number
owner_listed : (es : List Entity) (x : Entity) → TakesEntity es x → (stands es x.owner || own_number es x.owner x.kind) ≡ true
owner_listed es x t =
    let (y, e) = taken_ok (judged_kind es x.parent x.owner (Some x.mode) (Some x.kind)) t in
    let off = (judged_ok (entity_reasons es x.parent x.owner (Some x.mode) x.kind) (entity_named x.parent x.owner (Some x.mode) x.kind) y e).0 in
    (and_parts (stands es x.parent) _ (and_parts (mode_for x.kind (Some x.mode)) _ (not-false _ off.0)).1).1

-- owners have numbers below that of the next entity
abbrev Owned : List Entity → Type 0
Owned es = (v : ℕ) (x : Entity) → slice_get es v ≡ Some x → x.owner < length es

owned_more : (es : List Entity) (x : Entity) → Owned es → TakesEntity es x → Owned (es ++ x ∷ [])
owned_more es x h t v y p =
    ⊎_elim
    (λ q. omega (arith, length_push es x, h v y q))
    (λ (at, same).
    let o : y.owner ≡ x.owner = ap (λ (z : Entity). z.owner) (sym same) in
    ⊎_elim
    (λ (s : stands es x.owner ≡ true). omega (arith, length_push es x, nth_below es x.owner s, o))
    (λ (s : own_number es x.owner x.kind ≡ true). omega (arith, length_push es x, eqb-true x.owner (length es) (and_parts (is_account x.kind) _ s).1, o))
    (or_cases _ _ (owner_listed es x t)))
    (nth_pushed es x v y p)

owned_new : Owned new_entities
owned_new v x p = go v p
  where
    go : (v : ℕ) → slice_get new_entities v ≡ Some x → x.owner < 3
    go zero q = let same : 2 ≡ x.owner = cc in omega arith
    go (suc zero) q = let same : 2 ≡ x.owner = cc in omega arith
    go (suc (suc zero)) q = let same : 2 ≡ x.owner = cc in omega arith
    go (suc (suc (suc n))) q = cc

pub owner_small : {L : Lists} → Sound L → {w e : ℕ} → Owns L w e → w < 96
owner_small {L} s {w} {e} o = omega (arith, declared_ind Owned owned_new owned_more L.entities s.entities e o.entity o.there, o.owner, few L s)
