-- A judgement that takes a value found no reason against it.
use Rattle.std.proofs.Common.{◌≡◌, ℕ, Bool, true, false, cond, ◌&&◌, ◌||◌, List, [], ◌∷◌, is_some, is_ok, Some, None, Ok, Err, Option, Result, refl, ap, subst, arith}
use Rattle.std.specs.List.{AllByRecursion}
use Rattle.std.proofs.lemmas.Bool.{not-false, and_parts, or_parts, false≢true}
use Rattle.access.specs.declared.entities.Entity.{Entity}
use Rattle.access.specs.declared.entities.Kind.{Kind}
use Rattle.access.specs.declared.entities.Mode.{Mode}
use Rattle.access.specs.declared.rights.RightRecord.{RightRecord}
use Rattle.access.specs.declared.roles.Link.{Link}
use Rattle.access.specs.declared.roles.Member.{Member}
use Rattle.access.specs.declared.code.Object.{Object}
use Rattle.access.specs.declared.numbers.ObjectNumbers.{ObjectNumbers}
use Rattle.access.specs.declared.code.Line.{Line}
use Rattle.access.specs.Codes.{Code}
use Rattle.access.specs.Numbers.{kind_at, mode_at, right_at, option_at, object_at, runner_at}
use Rattle.access.specs.Lists.{fits, stands, is_role}
use Rattle.access.specs.Orders.{role_below}
use Rattle.catalogue.specs.Judgements.{Reason, judged, judged_kind, judged_entity, entity_reasons, entity_named, own_number, judged_link, link_reasons, link_named, judged_right, right_reasons, right_named, judged_member, member_reasons, member_named, judged_line, judged_objects, line_reasons, line_named}
use Rattle.catalogue.specs.Sound.{TakesEntity, TakesRight, TakesMember, TakesLine}

module _ {X : Type 0} where
  pub reason_off : (b : Bool) (r : Code) (rest : Result X Code) (y : X) → cond b (Err r) rest ≡ Ok y → (b ≡ false) × (rest ≡ Ok y)
  reason_off true r rest y e = let z : ◌≡◌ {A = ℕ} 0 1 = cc in let no : ⊥ = omega arith in absurd no
  reason_off false r rest y e = (refl, e)

  pub judged_ok : (rows : List Reason) (x y : X) → judged rows x ≡ Ok y → AllByRecursion (λ row. row.0 ≡ false) rows × (x ≡ y)
  judged_ok [] x y e = (tt, cc)
  judged_ok (row ∷ rows) x y e =
      let off = reason_off row.0 row.1 (judged rows x) y e in
      let more = judged_ok rows x y off.1 in
      ((off.0, more.0), more.1)

  never : (r : Code) (y : X) → Err r ≡ Ok y → ⊥
  never r y e = let z : ◌≡◌ {A = ℕ} 0 1 = cc in omega arith

-- the record that a judgement takes is one that a book takes

-- a listed mode is the one that the entity has
mode_named : (es : List Entity) (p o : ℕ) (m : Option Mode) (k : Kind) (x : Entity) → judged_kind es p o m (Some k) ≡ Ok x → judged_kind es p o (Some x.mode) (Some k) ≡ Ok x
mode_named es p o None k x j =
    let off = (judged_ok (entity_reasons es p o None k) (entity_named p o None k) x j).0.0 in
    let no : ⊥ = false≢true (and_parts false (stands es p && (stands es o || own_number es o k)) (not-false _ off)).0 in
    absurd no
mode_named es p o (Some m) k x j =
    let ok = judged_ok (entity_reasons es p o (Some m) k) (entity_named p o (Some m) k) x j in
    let same : m ≡ x.mode = cc in
    subst (λ n. judged_kind es p o (Some n) (Some k) ≡ Ok x) same j

-- the fields are those that were named
fields_named : (es : List Entity) (p o : ℕ) (m : Option Mode) (k : Kind) (x : Entity) → judged_kind es p o m (Some k) ≡ Ok x → (p ≡ x.parent) × (o ≡ x.owner) × (k ≡ x.kind)
fields_named es p o m k x j =
    let ok = judged_ok (entity_reasons es p o m k) (entity_named p o m k) x j in
    let e = ok.1 in
    (cc, cc, cc)

pub judged_entity_lem : (es : List Entity) (k p o m : ℕ) (x : Entity) → judged_entity es k p o m ≡ Ok x → TakesEntity es x
judged_entity_lem es k p o m x j = go (kind_at k) j
  where
    go : (a : Option Kind) → judged_kind es p o (mode_at m) a ≡ Ok x → TakesEntity es x
    go None e = absurd (never _ x e)
    go (Some a) e =
        let f = fields_named es p o (mode_at m) a x e in
        let t : judged_kind es x.parent x.owner (Some x.mode) (Some x.kind) ≡ Ok x =
        subst (λ c. judged_kind es x.parent x.owner (Some x.mode) (Some c) ≡ Ok x) f.2
        (subst (λ q. judged_kind es x.parent q (Some x.mode) (Some a) ≡ Ok x) f.1
        (subst (λ q. judged_kind es q o (Some x.mode) (Some a) ≡ Ok x) f.0 (mode_named es p o (mode_at m) a x e))) in
        ap is_ok t

pub judged_right_lem : (es : List Entity) (p e a o : ℕ) (x : RightRecord) → judged_right es p e a o ≡ Ok x → TakesRight es x
judged_right_lem es p e a o x j =
    let ok = judged_ok (right_reasons es p e a o) (right_named p e a o) x j in
    let three = and_parts (is_some (right_at a)) (is_some (option_at o) && (stands es p && stands es e)) (not-false _ ok.0.0) in
    let two = and_parts (is_some (option_at o)) (stands es p && stands es e) three.1 in
    let named : TakesRight es (right_named p e a o) = (not-false _ ok.0.1.0, (and_parts (stands es p) (stands es e) two.1).1) in
    subst (TakesRight es) ok.1 named

pub judged_member_lem : (es : List Entity) (a r : ℕ) (x : Member) → judged_member es a r ≡ Ok x → TakesMember es x
judged_member_lem es a r x j =
    let ok = judged_ok (member_reasons es a r) (member_named a r) x j in
    subst (TakesMember es) ok.1 (and_parts _ _ (not-false _ ok.0.1.0))

pub judged_line_lem : (es : List Entity) (x : ObjectNumbers) (r : ℕ) (y : ObjectNumbers) (l : Line) → judged_line es x r y ≡ Ok l → TakesLine es l
judged_line_lem es x r y l j = go (object_at x) (object_at y) j
  where
    go : (a b : Option Object) → judged_objects es a (runner_at r) b ≡ Ok l → TakesLine es l
    go None b e = absurd (never _ l e)
    go (Some a) None e = absurd (never _ l e)
    go (Some a) (Some b) e =
        let ok = judged_ok (line_reasons es a (runner_at r) b) (line_named a (runner_at r) b) l e in
        let fit = and_parts _ _ (not-false _ ok.0.1.0) in
        let more = and_parts _ _ fit.1 in
        subst (TakesLine es) ok.1 (fit.0, more.0, more.1)

-- what holds of a link that a judgement takes
pub record TakenLink (es : List Entity) (links : List Link) (k : Link) : Type 0 where
  pub lower : fits is_role es k.lower ≡ true
  pub upper : fits is_role es k.upper ≡ true
  pub free : role_below es links k.upper k.lower ≡ false

pub judged_link_lem : (es : List Entity) (links : List Link) (l u : ℕ) (k : Link) → judged_link es links l u ≡ Ok k → TakenLink es links k
judged_link_lem es links l u k j =
    let ok = judged_ok (link_reasons es links l u) (link_named l u) k j in
    let roles = and_parts _ _ (not-false _ ok.0.1.0) in
    let free = or_parts _ _ ok.0.1.1.0 in
    let at : TakenLink es links (link_named l u) = record { lower = roles.0; upper = roles.1; free = free.1 } in
    subst (TakenLink es links) ok.1 at
