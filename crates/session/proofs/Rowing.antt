-- The rows of an account say what it holds and may grant.
use Rattle.std.proofs.Common.{◌≡◌, ℕ, ◌<◌, Bool, true, false, not, ◌&&◌, ◌||◌, eqb, ltb, ◌⊎◌, List, [], Some, None, Decides, Option, sym, refl, ap, ◌∙◌, subst, inl, inr, ⊎_elim, arith}
use mathlib.Core.Bool.{or-false}
use mathlib.Core.List.Memᴰ
use Rattle.std.specs.List.{slice_get, list_any}
use Rattle.std.proofs.lemmas.Bool.{both_ways, or_cases, or_left, or_right, and_parts, and_from, eqb-true, eq-eqb, lt-ltb}
use Rattle.access.specs.declared.entities.Entity.{Entity}
use Rattle.access.specs.declared.rights.Right.{Right}
use Rattle.access.specs.declared.rights.RightRecord.{RightRecord}
use Rattle.access.specs.declared.roles.Member.{Member}
use Rattle.access.specs.declared.sets.RightSet.{RightSet}
use Rattle.access.specs.Lists.{◌∈◌, Lists}
use Rattle.access.specs.Numbers.{right_number}
use Rattle.access.specs.Orders.{Within}
use Rattle.access.specs.Sets.{told}
use Rattle.access.proofs.NumberLaws.{right_small, same_right}
use Rattle.order.specs.Spreads.{Carried}
use Rattle.order.proofs.TreeLaws.{below_stands}
use Rattle.catalogue.specs.Sound.{Sound}
use Rattle.runs.specs.Standing.{Owns}
use Rattle.runs.specs.States.{State}
use Rattle.runs.specs.Rights.{right_record, Has, by_record, CanGrant, by_option, InRole, Holds, MayGrant}
use Rattle.runs.proofs.Grounds.{few}
use Rattle.runs.proofs.Ordering.{place_stands}
use Rattle.runs.proofs.RightLaws.{Knows, holds_known, may_known}
use Rattle.session.specs.Marks.{gives_right, owned, owner_marked}
use Rattle.session.specs.Rowed.{AsOne, Rowed}
use Rattle.lookup.proofs.Telling.{any_gives, any_from}

-- Who has a right for an account

module _ (L : Lists) (S : State) (a : ℕ) where
  as_has : {q e : ℕ} {r : Right} → AsOne L S.members a q → Has L S q e r → Holds L S a e r
  as_has AsOne.itself h = Holds.itself h
  as_has (AsOne.as_anyone b) h = Holds.in_role (InRole.as_anyone b) h
  as_has (AsOne.as_member m b) h = Holds.in_role (InRole.as_member m b) h

  as_can : {q e : ℕ} {r : Right} → AsOne L S.members a q → CanGrant L S q e r → MayGrant L S a e r
  as_can AsOne.itself h = MayGrant.itself h
  as_can (AsOne.as_anyone b) h = MayGrant.in_role (InRole.as_anyone b) h
  as_can (AsOne.as_member m b) h = MayGrant.in_role (InRole.as_member m b) h

  in_as : {q : ℕ} → InRole L S a q → AsOne L S.members a q
  in_as (InRole.as_anyone b) = AsOne.as_anyone b
  in_as (InRole.as_member m b) = AsOne.as_member m b

  has_as : {e : ℕ} {r : Right} → Holds L S a e r → (q : ℕ) × AsOne L S.members a q × Has L S q e r
  has_as (Holds.itself h) = (a, AsOne.itself, h)
  has_as (Holds.in_role {q = q} i h) = (q, in_as i, h)

  can_as : {e : ℕ} {r : Right} → MayGrant L S a e r → (q : ℕ) × AsOne L S.members a q × CanGrant L S q e r
  can_as (MayGrant.itself h) = (a, AsOne.itself, h)
  can_as (MayGrant.in_role {q = q} i h) = (q, in_as i, h)

-- what something is in has a number below 96
pub place_small : (L : Lists) → Sound L → {e d : ℕ} → Within L.entities e d → d < 96
place_small L s {d = d} w = let most = few L s in let low = below_stands L.entities d (place_stands L.entities w) in omega arith

module _ (L : Lists) (ms : List Member) (a : ℕ) (who : List RightSet) (counts : (q : ℕ) → Decides (told who q 0) (AsOne L ms a q)) where
  -- a record of a principal that counts as the account
  record Counted (o : Bool) (gs : List RightRecord) (x : ℕ) (r : Right) : Type 0 where
    q : ℕ
    option : Bool
    same : AsOne L ms a q
    there : right_record q x r option ∈ gs
    able : (option || not o) ≡ true

  record_is : (x : ℕ) (r : Right) (g : RightRecord) → x ≡ g.entity → r ≡ g.right → right_record g.principal x r g.option ≡ g
  record_is x r g e f =
      ap (λ (z : ℕ). right_record g.principal z r g.option) e ∙ ap (λ z. right_record g.principal g.entity z g.option) f

  counted_gives : (o : Bool) (gs : List RightRecord) (x : ℕ) (r : Right) → list_any (gives_right who o x (right_number r)) gs ≡ true → Counted o gs x r
  counted_gives o gs x r t =
      let (g, i, h) = any_gives (gives_right who o x (right_number r)) gs t in
      let p = and_parts ((g.option || not o) && told who g.principal 0) (eqb x g.entity && eqb (right_number r) (right_number g.right)) h in
      let u = and_parts (g.option || not o) (told who g.principal 0) p.0 in
      let v = and_parts (eqb x g.entity) (eqb (right_number r) (right_number g.right)) p.1 in
      record {
        q = g.principal;
        option = g.option;
        same = (counts g.principal).0 u.1;
        there = Memᴰ.cast (record_is x r g (eqb-true _ _ v.0) (same_right r g.right (eqb-true _ _ v.1))) i;
        able = u.0;
      }

  counted_from : (o : Bool) (gs : List RightRecord) (x : ℕ) (r : Right) → Counted o gs x r → list_any (gives_right who o x (right_number r)) gs ≡ true
  counted_from o gs x r c =
      any_from (gives_right who o x (right_number r)) c.there
      (and_from _ _ (and_from _ _ c.able ((counts c.q).1 c.same)) (and_from _ _ (eq-eqb x x refl) (eq-eqb (right_number r) (right_number r) refl)))

  owned_gives : (d : ℕ) → owned who L.entities d ≡ true → (q : ℕ) × AsOne L ms a q × Owns L q d
  owned_gives d t = go (slice_get L.entities d) refl
    where
      go : (o : Option Entity) → slice_get L.entities d ≡ o → (q : ℕ) × AsOne L ms a q × Owns L q d
      go None e = absurd (both_ways _ (ap (owner_marked who) e) t)
      go (Some x) e = (x.owner, (counts x.owner).0 (sym (ap (owner_marked who) e) ∙ t), record { entity = x; there = e; owner = refl })

  owned_from : (d q : ℕ) → AsOne L ms a q → Owns L q d → owned who L.entities d ≡ true
  owned_from d q w o = ap (owner_marked who) o.there ∙ (counts o.entity.owner).1 (subst (AsOne L ms a) (sym o.owner) w)

  -- the entities that are owned are marked in full
  module _ (s : Sound L) (gs : List RightRecord) (own : ℕ → ℕ → Bool)
      (marks : (d k : ℕ) → d < 96 → own d k ≡ (owned who L.entities d && ltb k 7)) where
    -- a state with these records
    abbrev plain : State
    plain = record { acted = []; rights = gs; members = ms; planted = []; entered = [] }

    own_gives : (d k : ℕ) → d < 96 → own d k ≡ true → (q : ℕ) × AsOne L ms a q × Owns L q d
    own_gives d k h t = owned_gives d (and_parts (owned who L.entities d) _ (sym (marks d k h) ∙ t)).0

    own_from : (d q : ℕ) (r : Right) → d < 96 → AsOne L ms a q → Owns L q d → own d (right_number r) ≡ true
    own_from d q r h w o = marks d (right_number r) h ∙ and_from _ _ (owned_from d q w o) (lt-ltb (right_number r) 7 (right_small r))

    module _ (held : ℕ → ℕ → Bool)
        (tells : (x k : ℕ) → x < 96
        → Decides (held x k) (Carried (Within L.entities) (λ d j. own d j || list_any (gives_right who false d j) gs) 96 x k)) where
      to_holds : (e : ℕ) (r : Right) → Carried (Within L.entities) (λ d j. own d j || list_any (gives_right who false d j) gs) 96 e (right_number r) → Holds L plain a e r
      to_holds e r c =
          ⊎_elim
          (λ t. let (q, i, o) = own_gives c.from (right_number r) c.small t in as_has L plain a i (Has.by_owning c.over o))
          (λ t. let n : Counted false gs c.from r = counted_gives false gs c.from r t in as_has L plain a n.same (by_record c.over n.there))
          (or_cases (own c.from (right_number r)) _ c.has)

      from_has : (e q : ℕ) (r : Right) → AsOne L ms a q → Has L plain q e r
          → Carried (Within L.entities) (λ d j. own d j || list_any (gives_right who false d j) gs) 96 e (right_number r)
      from_has e q r i (by_record {d = d} {o = o} w m) = record {
        from = d;
        small = place_small L s w;
        over = w;
        has = or_right (own d (right_number r)) _ (counted_from false gs d r (record { q = q; option = o; same = i; there = m; able = or_right o _ refl }));
      }
      from_has e q r i (Has.by_owning {d = d} w o) =
          record { from = d; small = place_small L s w; over = w; has = or_left _ _ (own_from d q r (place_small L s w) i o) }

      pub holds_told : (e : ℕ) (r : Right) → e < 96 → Decides (held e (right_number r)) (Holds L plain a e r)
      holds_told e r l = (
        λ t. to_holds e r ((tells e (right_number r) l).0 t),
        λ u. let (q, i, p) = has_as L plain a u in (tells e (right_number r) l).1 (from_has e q r i p),
      )

    module _ (granted : ℕ → ℕ → Bool)
        (tells : (x k : ℕ) → x < 96
        → Decides (granted x k) (Carried (Within L.entities) own 96 x k ⊎ (list_any (gives_right who true x k) gs ≡ true))) where
      by_own : (e : ℕ) (r : Right) → Carried (Within L.entities) own 96 e (right_number r) → MayGrant L plain a e r
      by_own e r c = let (q, i, o) = own_gives c.from (right_number r) c.small c.has in as_can L plain a i (CanGrant.by_owning c.over o)

      with_option : (e : ℕ) (r : Right) → Counted true gs e r → MayGrant L plain a e r
      with_option e r c =
          as_can L plain a c.same (by_option (Memᴰ.cast (ap (right_record c.q e r) (sym (sym (or-false c.option) ∙ c.able))) c.there))

      from_can : (e q : ℕ) (r : Right) → AsOne L ms a q → CanGrant L plain q e r
          → Carried (Within L.entities) own 96 e (right_number r) ⊎ (list_any (gives_right who true e (right_number r)) gs ≡ true)
      from_can e q r i (by_option m) = inr (counted_from true gs e r (record { q = q; option = true; same = i; there = m; able = refl }))
      from_can e q r i (CanGrant.by_owning {d = d} w o) =
          inl (record { from = d; small = place_small L s w; over = w; has = own_from d q r (place_small L s w) i o })

      pub grants_told : (e : ℕ) (r : Right) → e < 96 → Decides (granted e (right_number r)) (MayGrant L plain a e r)
      grants_told e r l = (
        λ t. ⊎_elim (by_own e r) (λ n. with_option e r (counted_gives true gs e r n)) ((tells e (right_number r) l).0 t),
        λ u. let (q, i, p) = can_as L plain a u in (tells e (right_number r) l).1 (from_can e q r i p),
      )

-- rows that tell of one state tell of any state with the same records
pub rowed_any : (L : Lists) (a : ℕ) (held granted : List RightSet) (S T : State)
    → Knows S T → Knows T S → Rowed L S a held granted → Rowed L T a held granted
rowed_any L a held granted S T p q w = record {
  holds = λ e r l. (λ t. holds_known p ((w.holds e r l).0 t), λ h. (w.holds e r l).1 (holds_known q h));
  grants = λ e r l. (λ t. may_known p ((w.grants e r l).0 t), λ h. (w.grants e r l).1 (may_known q h));
}
