-- What holds of entities that were declared one after another.
use Rattle.std.proofs.Common.{◌≡◌, ℕ, ◌+◌, ◌<◌, ◌≤◌, true, cond, eqb, List, [], ◌∷◌, ◌++◌, length, drop, is_ok, Some, Ok, Err, Result, sym, refl, ap, ◌∙◌, subst, inl, inr, arith, lit≤}
use Rattle.std.proofs.lemmas.List.{take-append-drop, take-append-le, drop-append-le, length_push, length-take}
use Rattle.std.proofs.lemmas.List.Sums.{sum_by_push, sum_by-cons}
use Rattle.std.proofs.lemmas.Bool.{ltb-true, eqb-true, not-false, and_parts, false≢true, cases_Bool}
use Rattle.access.specs.declared.entities.Kind.{Kind}
use Rattle.access.specs.declared.entities.Kind.TheVariants.{Container, Table, Procedure, Account, Role}
use Rattle.access.specs.declared.entities.Entity.{Entity}
use Rattle.access.specs.Codes.{Code}
use Rattle.access.specs.Numbers.{kind_at, kind_number}
use Rattle.access.specs.Lists.{new_entities, fits, is_container, is_role, sysadmin}
use Rattle.access.specs.Orders.{InTurn}
use Rattle.catalogue.specs.Judgements.{judged_kind, entity_reasons, entity_named, of_kind, count_kind, limit_of}
use Rattle.catalogue.specs.Sound.{TakesEntity, Declared}
use Rattle.catalogue.proofs.Judging.{judged_ok}
use Rattle.access.proofs.Turns.{turn_push, turn_ind}
use Rattle.catalogue.proofs.Standing.{fits_stays}

pub taken_ok : {X : Type 0} (r : Result X Code) → is_ok r ≡ true → (x : X) × (r ≡ Ok x)
taken_ok (Ok x) e = (x, refl)
taken_ok (Err c) e = let no : ⊥ = false≢true e in absurd no

-- what holds of a declaration that is taken
pub record Taken (es : List Entity) (x : Entity) : Type 0 where
  pub parent : fits is_container es x.parent ≡ true
  pub room : count_kind x.kind es < limit_of x.kind

pub taken : (es : List Entity) (x : Entity) → TakesEntity es x → Taken es x
taken es x t =
    let (y, e) = taken_ok (judged_kind es x.parent x.owner (Some x.mode) (Some x.kind)) t in
    let off = (judged_ok (entity_reasons es x.parent x.owner (Some x.mode) x.kind) (entity_named x.parent x.owner (Some x.mode) x.kind) y e).0 in
    record {
      parent = (and_parts _ _ (not-false _ off.1.0)).0;
      room = ltb-true _ _ (not-false _ off.1.1.1.0);
    }

-- what holds of a new book's entities and is kept by each declaration holds
pub declared_ind : (Q : List Entity → Type 0) → Q new_entities → ((es : List Entity) (x : Entity) → Q es → TakesEntity es x → Q (es ++ x ∷ []))
    → (es : List Entity) → Declared es → Q es
declared_ind Q q step es d =
    let whole : new_entities ++ drop 3 es ≡ es = ap (λ front. front ++ drop 3 es) (sym d.first) ∙ take-append-drop 3 es in
    subst Q whole (turn_ind TakesEntity Q step new_entities (drop 3 es) q d.turns)

pub declared_long : (es : List Entity) → Declared es → 3 ≤ length es
declared_long es d = omega (arith, ap length d.first, length-take 3 es)

pub declared_push : (es : List Entity) (x : Entity) → Declared es → TakesEntity es x → Declared (es ++ x ∷ [])
declared_push es x d t =
    let long = declared_long es d in
    let whole : new_entities ++ drop 3 es ≡ es = ap (λ front. front ++ drop 3 es) (sym d.first) ∙ take-append-drop 3 es in
    record {
      first = take-append-le 3 es (x ∷ []) long ∙ d.first;
      turns = subst (InTurn TakesEntity new_entities) (sym (drop-append-le 3 es (x ∷ []) long))
          (turn_push TakesEntity new_entities (drop 3 es) x d.turns (subst (λ b. TakesEntity b x) (sym whole) t));
    }

-- How many there are

kind_back : (k : Kind) → kind_at (kind_number k) ≡ Some k
kind_back Container = refl
kind_back Table = refl
kind_back Procedure = refl
kind_back Account = refl
kind_back Role = refl

same_kind : (j k : Kind) → eqb (kind_number j) (kind_number k) ≡ true → j ≡ k
same_kind j k e =
    let both : Some j ≡ Some k = sym (kind_back j) ∙ ap kind_at (eqb-true _ _ e) ∙ kind_back k in cc

-- no kind passes its limit
abbrev pub Few : List Entity → Type 0
Few es = (k : Kind) → count_kind k es ≤ limit_of k

count_push : (es : List Entity) (x : Entity) → Few es → TakesEntity es x → Few (es ++ x ∷ [])
count_push es x few t k =
    let pushed = sum_by_push (λ e. cond (of_kind k e) 1 0) es x in
    let old = few k in
    elim (cases_Bool (of_kind k x)) [
      | inl e ↦ let at : count_kind k es < limit_of k = subst (λ j. count_kind j es < limit_of j) (same_kind x.kind k e) (taken es x t).room in
          omega (arith, pushed, ap (λ b. cond {A = ℕ} b 1 0) e)
      | inr e ↦ omega (arith, pushed, ap (λ b. cond {A = ℕ} b 1 0) e)
    ]

few_new : Few new_entities
few_new Container = lit≤ tt
few_new Table = lit≤ tt
few_new Procedure = lit≤ tt
few_new Account = lit≤ tt
few_new Role = lit≤ tt

pub declared_few : (es : List Entity) → Declared es → Few es
declared_few = declared_ind Few few_new count_push

abbrev one : Kind → Kind → ℕ
one k j = cond (eqb (kind_number j) (kind_number k)) 1 0

one_kind : (j : Kind) → one Container j + one Table j + one Procedure j + one Account j + one Role j ≡ 1
one_kind Container = refl
one_kind Table = refl
one_kind Procedure = refl
one_kind Account = refl
one_kind Role = refl

count_cons : (k : Kind) (x : Entity) (xs : List Entity) → count_kind k (x ∷ xs) ≡ one k x.kind + count_kind k xs
count_cons k x xs = sum_by-cons (λ e. cond (of_kind k e) 1 0) x xs

-- the entities are as many as the kinds have together
kinds_length : (es : List Entity) → length es ≡ count_kind Container es + count_kind Table es + count_kind Procedure es + count_kind Account es + count_kind Role es
kinds_length [] = refl
kinds_length (x ∷ xs) =
    omega (arith, kinds_length xs, one_kind x.kind, count_cons Container x xs, count_cons Table x xs, count_cons Procedure x xs, count_cons Account x xs, count_cons Role x xs)

pub entities_few : (es : List Entity) → Declared es → length es ≤ 96
entities_few es d =
    let few = declared_few es d in
    omega (arith, kinds_length es, few Container, few Table, few Procedure, few Account, few Role)

-- where a kind has room, so has the list
pub entities_room : (es : List Entity) (x : Entity) → Declared es → TakesEntity es x → length es < 96
entities_room es x d t =
    let few = declared_few (es ++ x ∷ []) (declared_push es x d t) in
    omega (arith, length_push es x, entities_few (es ++ x ∷ []) (declared_push es x d t))

-- The root and sysadmin

pub sysadmin_role : (es : List Entity) → Declared es → fits is_role es sysadmin ≡ true
sysadmin_role = declared_ind (λ es. fits is_role es sysadmin ≡ true) refl (λ es x h t. fits_stays es x is_role sysadmin h)
