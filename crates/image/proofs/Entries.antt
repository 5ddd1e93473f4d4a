-- What right contents say of the bodies.
use Rattle.std.proofs.Common.{◌≡◌, ℕ, ◌+◌, ◌-◌, ◌*◌, ◌≤◌, Bool, true, false, cond, eqb, ltb, List, length, take, drop, Ok, Err, Result, sym, refl, ap, ◌∙◌, arith}
use Rattle.std.specs.List.{between}
use Rattle.std.proofs.lemmas.List.{length-drop, length-take-le}
use Rattle.std.proofs.lemmas.Bool.{ltb-false, leb-true, eqb-true, and_parts}
use Rattle.access.specs.Codes.{Code}
use Rattle.access.specs.Lists.{Lists, new_lists}
use Rattle.catalogue.specs.declared.names.ListName.{ListName}
use Rattle.catalogue.specs.declared.names.ListName.TheVariants.{Entities, Links, Rights, Members, Lines}
use Rattle.catalogue.proofs.Judging.{reason_off}
use Rattle.image.specs.Layout.{in_order, index_of, width_of, least_of, most_of}
use Rattle.image.specs.Reading.{fault, and_then, start_at, count_at, entry_fits, entry_end, end_after, contents_end, body_in, firsts, built_parts, read_lists, Laid}

module _ {X : Type 0} where
  -- a test that gave a value
  pub cond_ok : (b : Bool) (x y : X) (f : Code) → cond {A = Result X Code} b (Ok x) (Err f) ≡ Ok y → (b ≡ true) × (x ≡ y)
  cond_ok true x y f e = (refl, cc)
  cond_ok false x y f e = absurd cc

pub then_ok : {X Y : Type 0} (r : Result X Code) (f : X → Result Y Code) (y : Y) → and_then r f ≡ Ok y → (x : X) × ((r ≡ Ok x) × (f x ≡ Ok y))
then_ok (Ok x) f y e = (x, (refl, e))
then_ok (Err c) f y e = absurd cc

-- an entry that is right, between the end of the body before and the end of its own
pub record Entry (bytes : List ℕ) (p : ListName) (at end : ℕ) : Type 0 where
  pub start : start_at bytes p ≡ at
  pub least : least_of p ≤ count_at bytes p
  pub most : count_at bytes p ≤ most_of p
  pub ends : end ≡ at + count_at bytes p * width_of p

entry_right_lem : (bytes : List ℕ) (p : ListName) (at end : ℕ) → entry_end bytes p at ≡ Ok end → Entry bytes p at end
entry_right_lem bytes p at end e =
    let ok = cond_ok (entry_fits bytes p at) (at + count_at bytes p * width_of p) end (fault 0 (index_of p)) e in
    let one = and_parts _ _ ok.0 in
    let next = and_parts _ _ one.1 in
    record { start = eqb-true _ _ one.0; least = leb-true _ _ next.0; most = leb-true _ _ next.1; ends = sym ok.1 }

-- contents that are right
pub record Whole (bytes : List ℕ) (e0 e1 e2 e3 e4 : ℕ) : Type 0 where
  pub head : 20 ≤ length bytes
  pub r0 : Entry bytes Entities 20 e0
  pub r1 : Entry bytes Links e0 e1
  pub r2 : Entry bytes Rights e1 e2
  pub r3 : Entry bytes Members e2 e3
  pub r4 : Entry bytes Lines e3 e4
  pub end : length bytes ≡ e4

pub record Good (bytes : List ℕ) : Type 0 where
  pub e0 : ℕ
  pub e1 : ℕ
  pub e2 : ℕ
  pub e3 : ℕ
  pub e4 : ℕ
  pub whole : Whole bytes e0 e1 e2 e3 e4

pub contents_good : (bytes : List ℕ) (end : ℕ) → contents_end bytes ≡ Ok end → Good bytes
contents_good bytes end e =
    let long = reason_off (ltb (length bytes) 20) (fault 0 5) _ end e in
    let last = then_ok (end_after bytes in_order 20) _ end long.1 in
    let s0 = then_ok (entry_end bytes Entities 20) _ _ last.1.0 in
    let s1 = then_ok (entry_end bytes Links s0.0) _ _ s0.1.1 in
    let s2 = then_ok (entry_end bytes Rights s1.0) _ _ s1.1.1 in
    let s3 = then_ok (entry_end bytes Members s2.0) _ _ s2.1.1 in
    let s4 = then_ok (entry_end bytes Lines s3.0) _ _ s3.1.1 in
    let total = cond_ok (eqb (length bytes) last.0) last.0 end (fault 0 5) last.1.1 in
    let same : s4.0 ≡ last.0 = cc s4.1.1 in
    record {
      e0 = s0.0;
      e1 = s1.0;
      e2 = s2.0;
      e3 = s3.0;
      e4 = s4.0;
      whole = record {
        head = ltb-false _ _ long.0;
        r0 = entry_right_lem bytes Entities 20 s0.0 s0.1.0;
        r1 = entry_right_lem bytes Links s0.0 s1.0 s1.1.0;
        r2 = entry_right_lem bytes Rights s1.0 s2.0 s2.1.0;
        r3 = entry_right_lem bytes Members s2.0 s3.0 s3.1.0;
        r4 = entry_right_lem bytes Lines s3.0 s4.0 s4.1.0;
        end = eqb-true _ _ total.0 ∙ sym same;
      };
    }

pub laid : (bytes : List ℕ) → Good bytes → (p : ListName) → Laid bytes p
laid bytes g Entities = record { head = g.whole.head; least = g.whole.r0.least; most = g.whole.r0.most; inside = omega (arith, g.whole.end, g.whole.r0.start, g.whole.r0.ends, g.whole.r1.ends, g.whole.r2.ends, g.whole.r3.ends, g.whole.r4.ends) }
laid bytes g Links = record { head = g.whole.head; least = g.whole.r1.least; most = g.whole.r1.most; inside = omega (arith, g.whole.end, g.whole.r1.start, g.whole.r1.ends, g.whole.r2.ends, g.whole.r3.ends, g.whole.r4.ends) }
laid bytes g Rights = record { head = g.whole.head; least = g.whole.r2.least; most = g.whole.r2.most; inside = omega (arith, g.whole.end, g.whole.r2.start, g.whole.r2.ends, g.whole.r3.ends, g.whole.r4.ends) }
laid bytes g Members = record { head = g.whole.head; least = g.whole.r3.least; most = g.whole.r3.most; inside = omega (arith, g.whole.end, g.whole.r3.start, g.whole.r3.ends, g.whole.r4.ends) }
laid bytes g Lines = record { head = g.whole.head; least = g.whole.r4.least; most = g.whole.r4.most; inside = omega (arith, g.whole.end, g.whole.r4.start, g.whole.r4.ends) }

pub firsts_inside : (bytes : List ℕ) → Good bytes → 32 ≤ length bytes
firsts_inside bytes g = omega (arith, (laid bytes g Entities).inside, (laid bytes g Entities).least, g.whole.r0.start)

-- a part of the bytes
pub cut : (bytes : List ℕ) (s n : ℕ) → between s (s + n) bytes ≡ take n (drop s bytes)
cut bytes s n = let e : (s + n) - s ≡ n = omega arith in ap (λ i. take i (drop s bytes)) e

pub body_long : (bytes : List ℕ) (p : ListName) → Laid bytes p → length (body_in p bytes) ≡ count_at bytes p * width_of p
body_long bytes p h =
    let s = start_at bytes p in
    let n = count_at bytes p * width_of p in
    ap length (cut bytes s n) ∙ length-take-le n (drop s bytes) (omega (arith, length-drop s bytes, h.inside))

-- what bytes that read have passed
pub record Passed (bytes : List ℕ) (l : Lists) : Type 0 where
  pub good : Good bytes
  pub first : firsts bytes ≡ Ok tt
  pub built : built_parts bytes in_order new_lists ≡ Ok l

pub reads_passed : (bytes : List ℕ) (l : Lists) → read_lists bytes ≡ Ok l → Passed bytes l
unfolding read_lists
reads_passed bytes l e =
    let one = then_ok (contents_end bytes) _ l e in
    let next = then_ok (firsts bytes) _ l one.1.1 in
    record { good = contents_good bytes one.0 one.1.0; first = next.1.0; built = next.1.1 }
