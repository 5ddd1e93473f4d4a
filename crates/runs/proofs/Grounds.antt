-- What the laws of runs need of a catalogue, from its soundness.
use Rattle.std.proofs.Common.{rules, ◌≡◌, ℕ, zero, suc, ◌-◌, ◌<◌, ◌≤◌, Bool, true, ◌&&◌, eqb, ◌⊎◌, List, [], ◌∷◌, ◌++◌, length, is_some, Some, None, Option, sym, refl, ap, ◌∙◌, subst, inl, inr, ⊎_elim, arith}
use mathlib.Core.List.Memᴰ
use Rattle.std.specs.List.{slice_get, AllByRecursion}
use Rattle.std.proofs.lemmas.Bool.{eqb-true, not-false, and_parts, false≢true}
use Rattle.access.specs.declared.entities.Kind.{Kind}
use Rattle.access.specs.declared.entities.Kind.TheVariants as kind
use Rattle.access.specs.declared.entities.Entity.{Entity}
use Rattle.access.specs.declared.code.Object.{Object}
use Rattle.access.specs.declared.code.Object.TheVariants as object
use Rattle.access.specs.declared.code.Runner.{Runner}
use Rattle.access.specs.declared.code.Runner.TheVariants as runner
use Rattle.access.specs.declared.code.Action.{Action}
use Rattle.access.specs.declared.code.Action.TheVariants as action
use Rattle.access.specs.declared.code.Line.{Line}
use Rattle.access.specs.Lists.{◌∈◌, Lists, new_entities, fits, passes, is_container, is_table, is_procedure, is_account, is_role, public}
use Rattle.access.specs.Orders.{Rooted}
use Rattle.catalogue.specs.Judgements.{judged_kind, entity_reasons, entity_named, given, parent_given, owner_given, object_fits, runner_fits, count_kind, limit_of}
use Rattle.catalogue.specs.Sound.{Sound, Declared, TakesEntity, TakesLine, call_fits}
use Rattle.catalogue.proofs.Judging.{judged_ok}
use Rattle.catalogue.proofs.Standing.{nth_below, fits_stays}
use Rattle.catalogue.proofs.Declaring.{taken, taken_ok, declared_ind, declared_few, entities_few}
use Rattle.runs.specs.Standing.{Stands, Is, Owns, IsObject, a_procedure, a_trigger}

-- Kinds as tests and as facts

module _ (L : Lists) where
  pub is_stands : {k : Kind} {e : ℕ} → Is L k e → Stands L e
  is_stands i = ap is_some i.there

  pub is_fits : (test : Kind → Bool) {k : Kind} {e : ℕ} → test k ≡ true → Is L k e → fits test L.entities e ≡ true
  is_fits test t i = ap (passes test) i.there ∙ ap test i.kind ∙ t

  pub fits_is : (test : Kind → Bool) (k : Kind) (e : ℕ) → ((j : Kind) → test j ≡ true → j ≡ k) → fits test L.entities e ≡ true → Is L k e
  fits_is test k e only h = go (slice_get L.entities e) refl
    where
      go : (o : Option Entity) → slice_get L.entities e ≡ o → Is L k e
      go None p = absurd (false≢true (ap (passes test) (sym p) ∙ h))
      go (Some x) p = record { entity = x; there = p; kind = only x.kind (ap (passes test) (sym p) ∙ h) }

only_table : (j : Kind) → is_table j ≡ true → j ≡ kind.Table
only_table = search rules

only_procedure : (j : Kind) → is_procedure j ≡ true → j ≡ kind.Procedure
only_procedure = search rules

only_account : (j : Kind) → is_account j ≡ true → j ≡ kind.Account
only_account = search rules

only_role : (j : Kind) → is_role j ≡ true → j ≡ kind.Role
only_role = search rules

module _ (L : Lists) (e : ℕ) where
  pub role_is : fits is_role L.entities e ≡ true → Is L kind.Role e
  role_is = fits_is L is_role kind.Role e only_role

  pub account_is : fits is_account L.entities e ≡ true → Is L kind.Account e
  account_is = fits_is L is_account kind.Account e only_account

  pub table_is : fits is_table L.entities e ≡ true → Is L kind.Table e
  table_is = fits_is L is_table kind.Table e only_table

  pub procedure_is : fits is_procedure L.entities e ≡ true → Is L kind.Procedure e
  procedure_is = fits_is L is_procedure kind.Procedure e only_procedure

-- Entities that were declared one after another

-- what stands after one more came is what stood, or that one
pub nth_pushed : {X : Type 0} (xs : List X) (x : X) (n : ℕ) (y : X) → slice_get (xs ++ x ∷ []) n ≡ Some y → (slice_get xs n ≡ Some y) ⊎ ((n ≡ length xs) × (x ≡ y))
nth_pushed [] x zero y e = inr (refl, cc)
nth_pushed [] x (suc n) y e = cc
nth_pushed (z ∷ zs) x zero y e = inl e
nth_pushed (z ∷ zs) x (suc n) y e = ⊎_elim (λ p. inl p) (λ (p, q). inr (ap suc p, q)) (nth_pushed zs x n y e)

fits_stands : (test : Kind → Bool) (o : Option Entity) → passes test o ≡ true → is_some o ≡ true
fits_stands test None h = h
fits_stands test (Some x) h = refl

rooted_more : (es : List Entity) (x : Entity) → Rooted es → TakesEntity es x → Rooted (es ++ x ∷ [])
rooted_more es x h t e y p =
    ⊎_elim (h e y)
    (λ (at, same).
    let below : x.parent < length es = nth_below es x.parent (fits_stands is_container (slice_get es x.parent) (taken es x t).parent) in
    subst (λ (z : Entity). z.parent ≤ e - 1) same (omega arith))
    (nth_pushed es x e y p)

rooted_new : Rooted new_entities
rooted_new e x p = go e p
  where
    go : (e : ℕ) → slice_get new_entities e ≡ Some x → x.parent ≤ e - 1
    go zero q = let same : 0 ≡ x.parent = cc in omega arith
    go (suc zero) q = let same : 0 ≡ x.parent = cc in omega arith
    go (suc (suc zero)) q = let same : 0 ≡ x.parent = cc in omega arith
    go (suc (suc (suc n))) q = cc

pub declared_rooted : (es : List Entity) → Declared es → Rooted es
declared_rooted = declared_ind Rooted rooted_new rooted_more

-- an account owns itself
abbrev SelfOwned : List Entity → Type 0
SelfOwned es = (v : ℕ) (x : Entity) → slice_get es v ≡ Some x → x.kind ≡ kind.Account → x.owner ≡ v

given_owner : (k : Kind) (own p o : ℕ) (at : Option Entity) → k ≡ kind.Account → given k own p o at ≡ true → o ≡ own
given_owner k own p o None e h = absurd (false≢true h)
given_owner k own p o (Some parent) e h =
    let g : (parent_given kind.Account p parent && owner_given kind.Account own o parent) ≡ true =
    subst (λ (j : Kind). (parent_given j p parent && owner_given j own o parent) ≡ true) e h in
    eqb-true o own (and_parts (eqb p 0) (eqb o own) g).1

-- the rules gave a declared entity its parent and owner
taken_given : (es : List Entity) (x : Entity) → TakesEntity es x → given x.kind (length es) x.parent x.owner (slice_get es x.parent) ≡ true
taken_given es x t =
    let (y, e) = taken_ok (judged_kind es x.parent x.owner (Some x.mode) (Some x.kind)) t in
    let off = (judged_ok (entity_reasons es x.parent x.owner (Some x.mode) x.kind) (entity_named x.parent x.owner (Some x.mode) x.kind) y e).0 in
    not-false _ off.1.1.0

self_more : (es : List Entity) (x : Entity) → SelfOwned es → TakesEntity es x → SelfOwned (es ++ x ∷ [])
self_more es x h t v y p k =
    ⊎_elim (λ q. h v y q k)
    (λ (at, same).
    let mine : x.owner ≡ length es =
    given_owner x.kind (length es) x.parent x.owner (slice_get es x.parent) (ap (λ (z : Entity). z.kind) same ∙ k) (taken_given es x t) in
    ap (λ (z : Entity). z.owner) (sym same) ∙ mine ∙ sym at)
    (nth_pushed es x v y p)

self_new : SelfOwned new_entities
self_new v x p k = go v p
  where
    go : (v : ℕ) → slice_get new_entities v ≡ Some x → x.owner ≡ v
    go zero q = cc
    go (suc zero) q = cc
    go (suc (suc zero)) q = let same : 2 ≡ x.owner = cc in sym same
    go (suc (suc (suc n))) q = cc

declared_self : (es : List Entity) → Declared es → SelfOwned es
declared_self = declared_ind SelfOwned self_new self_more

-- Lines of a catalogue

pub data IsCall (L : Lists) : Action → Type 0 where
  to : {y : Object} → IsObject L y → IsCall L (action.Call y)

pub data IsRunner (L : Lists) : Runner → Type 0 where
  the_caller : IsRunner L runner.Caller
  an_account : {w : ℕ} → Is L kind.Account w → IsRunner L (runner.Account w)

module _ (L : Lists) where
  object_is : (x : Object) → object_fits L.entities x ≡ true → IsObject L x
  object_is (object.Procedure e) h = a_procedure (procedure_is L e h)
  object_is (object.Triggers e event) h = a_trigger (table_is L e h)
  object_is (object.Created e) h = absurd (false≢true h)

  runner_is : (r : Runner) → runner_fits L.entities r ≡ true → IsRunner L r
  runner_is runner.Caller h = the_caller
  runner_is (runner.Account w) h = an_account (account_is L w h)

  call_is : (a : Action) → call_fits L.entities a ≡ true → IsCall L a
  call_is (action.Call y) h = to (object_is y h)
  call_is (action.Grant g) h = absurd (false≢true h)
  call_is (action.Join m) h = absurd (false≢true h)

pub all_in : {X : Type 0} (P : X → Type 0) (xs : List X) (x : X) → AllByRecursion P xs → x ∈ xs → P x
all_in P [] x h m = elim m [ ]
all_in P (y ∷ ys) x h (Memᴰ.head e) = subst P (sym e) h.0
all_in P (y ∷ ys) x h (Memᴰ.tail m) = all_in P ys x h.1 m

-- What a sound catalogue gives

module _ (L : Lists) (s : Sound L) where
  pub public_role : fits is_role L.entities public ≡ true
  public_role =
      declared_ind (λ es. fits is_role es public ≡ true) refl (λ es x h t. fits_stays es x is_role public h) L.entities s.entities

  pub rooted : Rooted L.entities
  rooted = declared_rooted L.entities s.entities

  pub self_owned : {v : ℕ} → Is L kind.Account v → Owns L v v
  self_owned {v} i =
      record { entity = i.entity; there = i.there; owner = declared_self L.entities s.entities v i.entity i.there i.kind }

  pub calls : (l : Line) → l ∈ L.lines → IsCall L l.action
  calls l m = call_is L l.action (all_in (TakesLine L.entities) L.lines l s.lines.fit m).2

  pub runners : (l : Line) → l ∈ L.lines → IsRunner L l.runner
  runners l m = runner_is L l.runner (all_in (TakesLine L.entities) L.lines l s.lines.fit m).1

  pub line_objects : (l : Line) → l ∈ L.lines → IsObject L l.object
  line_objects l m = object_is L l.object (all_in (TakesLine L.entities) L.lines l s.lines.fit m).0

  -- there are at most 96 entities, and of each kind no more than its limit
  pub few : length L.entities ≤ 96
  few = entities_few L.entities s.entities

  pub few_of : (k : Kind) → count_kind k L.entities ≤ limit_of k
  few_of = declared_few L.entities s.entities
