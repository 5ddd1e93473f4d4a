-- The first fault has a cause.
use Rattle.std.proofs.Common.{◌≡◌, ℕ, zero, suc, ◌+◌, ◌-◌, ◌*◌, ◌<◌, Bool, true, false, cond, eqb, ltb, ◌⊎◌, List, [], ◌∷◌, ◌++◌, length, drop, Ok, Err, Result, sym, refl, ap, ◌∙◌, inl, inr, append_assoc, arith}
use Rattle.std.proofs.lemmas.List.{length_push}
use Rattle.std.proofs.lemmas.Bool.{ltb-true, eqb-true, eqb-false, eq-eqb, le-leb, and_from, both_ways}
use Rattle.access.specs.declared.entities.Entity.{Entity}
use Rattle.access.specs.Codes.{Code}
use Rattle.access.specs.Lists.{Lists, new_entities, new_lists}
use Rattle.catalogue.specs.declared.names.ListName.{ListName}
use Rattle.image.specs.Layout.{in_order, index_of, part_of, width_of, least_of, most_of}
use Rattle.image.specs.Bytes.{entity_bytes}
use Rattle.image.specs.Reading.{fault, and_then, steps, start_at, count_at, entry_fits, entry_end, end_after, contents_end, same_at, first_at, firsts_from, firsts, is_new, first_call, body_in, built_from, built_part, built_parts, read_lists}
use Rattle.image.proofs.Entries.{then_ok}
use Rattle.image.specs.Causes.{answer_at, FirstNot, Cause, short, entry, total, other, later}

never : {X : Type 0} (x : X) (c : Code) → ◌≡◌ {A = Result X Code} (Ok x) (Err c) → ⊥
never x c e = cc

err_same : {X : Type 0} (a b : Code) → ◌≡◌ {A = Result X Code} (Err a) (Err b) → b ≡ a
err_same a b e = cc

-- a step that failed, or one that passed before another that failed
then_err : {X Y : Type 0} (r : Result X Code) (f : X → Result Y Code) (c : Code) → and_then r f ≡ Err c → (r ≡ Err c) ⊎ ((x : X) × ((r ≡ Ok x) × (f x ≡ Err c)))
then_err (Ok x) f c e = inr (x, (refl, e))
then_err (Err d) f c e = inl (let same : d ≡ c = cc in ap Err same)

-- a test that failed
test_err : {X : Type 0} (b : Bool) (x : X) (f c : Code) → cond {A = Result X Code} b (Ok x) (Err f) ≡ Err c → (b ≡ false) × (c ≡ f)
test_err true x f c e = absurd (never x c e)
test_err false x f c e = (refl, err_same f c e)

then_end : {X : Type 0} (r : Result X Code) → and_then r (λ x. Ok x) ≡ r
then_end (Ok x) = refl
then_end (Err c) = refl

-- steps one after another, grouped either way
then_then : {X Y Z : Type 0} (r : Result X Code) (f : X → Result Z Code) (g : X → Result Y Code) (h : Y → Result Z Code) → ((x : X) → f x ≡ and_then (g x) h) → and_then r f ≡ and_then (and_then r g) h
then_then (Ok x) f g h e = e x
then_then (Err c) f g h e = refl

-- one step more
steps_push : {X : Type 0} (f : ListName → X → Result X Code) (ps : List ListName) (p : ListName) (x : X) → steps f (ps ++ p ∷ []) x ≡ and_then (steps f ps x) (f p)
steps_push f [] p x = then_end (f p x)
steps_push f (q ∷ ps) p x = then_then (f q x) (steps f (ps ++ p ∷ [])) (steps f ps) (f p) (λ y. steps_push f ps p y)

-- The contents

entry_cause : (bytes : List ℕ) (c : Code) (before ps : List ListName) (at : ℕ) → in_order ≡ before ++ ps → end_after bytes before 20 ≡ Ok at → end_after bytes ps at ≡ Err c → Cause bytes c
entry_cause bytes c before [] at whole e f = absurd (never at c f)
entry_cause bytes c before (p ∷ ps) at whole e f = elim (then_err (entry_end bytes p at) (end_after bytes ps) c f) [
  | inl h ↦
      let off = test_err (entry_fits bytes p at) (at + count_at bytes p * width_of p) (fault 0 (index_of p)) c h in
      entry before ps p at whole e
      (λ right. both_ways (entry_fits bytes p at) off.0 (and_from _ _ (eq-eqb (start_at bytes p) at right.start) (and_from _ _ (le-leb (least_of p) (count_at bytes p) right.least) (le-leb (count_at bytes p) (most_of p) right.most))))
      off.1
  | inr (end, h) ↦
      entry_cause bytes c (before ++ p ∷ []) ps end (whole ∙ sym (append_assoc before (p ∷ []) ps))
      (steps_push (entry_end bytes) before p 20 ∙ ap (λ r. and_then r (entry_end bytes p)) e ∙ h.0) h.1
]

contents_cause : (bytes : List ℕ) (c : Code) → contents_end bytes ≡ Err c → Cause bytes c
contents_cause bytes c e = go (ltb (length bytes) 20) refl e
  where
    go : (b : Bool) → ltb (length bytes) 20 ≡ b → cond b (Err (fault 0 5)) (and_then (end_after bytes in_order 20) (λ end. cond (eqb (length bytes) end) (Ok end) (Err (fault 0 5)))) ≡ Err c → Cause bytes c
    go true t f = short (ltb-true _ _ t) (err_same (fault 0 5) c f)
    go false t f = elim (then_err (end_after bytes in_order 20) (λ end. cond (eqb (length bytes) end) (Ok end) (Err (fault 0 5))) c f) [
      | inl h ↦ entry_cause bytes c [] in_order 20 refl refl h
      | inr (end, h) ↦
          let off = test_err (eqb (length bytes) end) end (fault 0 5) c h.1 in
          total end h.0 (eqb-false (length bytes) end off.0) off.1
    ]

-- The first entities

firsts_push : (bytes : List ℕ) (k : ℕ) (es : List Entity) (x : Entity) → firsts_from bytes k es ≡ Ok tt → first_at bytes (k + length es) x ≡ Ok tt → firsts_from bytes k (es ++ x ∷ []) ≡ Ok tt
firsts_push bytes k [] x e f =
    let n : k ≡ k + 0 = omega arith in
    ap (λ r. and_then r (λ _. Ok tt)) (ap (λ i. first_at bytes i x) n ∙ f)
firsts_push bytes k (y ∷ es) x e f =
    let r = then_ok (first_at bytes k y) (λ _. firsts_from bytes (k + 1) es) tt e in
    let n : k + length (y ∷ es) ≡ (k + 1) + length es = omega arith in
    ap (λ s. and_then s (λ _. firsts_from bytes (k + 1) (es ++ x ∷ []))) r.1.0
    ∙ firsts_push bytes (k + 1) es x r.1.1 (ap (λ i. first_at bytes i x) (sym n) ∙ f)

module _ (bytes : List ℕ) (c : Code) (end : ℕ) (good : contents_end bytes ≡ Ok end) where
  firsts_cause : (before es : List Entity) (k : ℕ) → k ≡ length before → new_entities ≡ before ++ es → firsts_from bytes 0 before ≡ Ok tt → firsts_from bytes k es ≡ Err c → Cause bytes c
  firsts_cause before [] k n whole e f = absurd (never tt c f)
  firsts_cause before (x ∷ es) k n whole e f = elim (then_err (first_at bytes k x) (λ _. firsts_from bytes (k + 1) es) c f) [
    | inl h ↦
        let off = test_err (same_at bytes (20 + k * 4) (entity_bytes x)) tt (fault 1 k) c h in
        other end before es x good whole e (ap (λ i. same_at bytes (20 + i * 4) (entity_bytes x)) (sym n) ∙ off.0) (off.1 ∙ ap (fault 1) n)
    | inr (u, h) ↦
        let zero_k : 0 + length before ≡ k = omega arith in
        firsts_cause (before ++ x ∷ []) es (k + 1) (omega (arith, length_push before x)) (whole ∙ sym (append_assoc before (x ∷ []) es))
        (firsts_push bytes 0 before x e (ap (λ i. first_at bytes i x) zero_k ∙ h.0)) h.1
  ]

-- The bodies

new_is : (a : Result ℕ Code) (k : ℕ) → is_new a k ≡ true → a ≡ Ok k
new_is (Ok n) k e = ap Ok (eqb-true n k e)
new_is (Err c) k e = absurd cc

is_new_lem : (a : Result ℕ Code) (k : ℕ) → a ≡ Ok k → is_new a k ≡ true
is_new_lem a k e = ap (λ r. is_new r k) e ∙ eq-eqb k k refl

-- where the first record that is not new stands
record Found (p : ListName) (c : Code) (rest : List ℕ) (l : Lists) (k : ℕ) : Type 0 where
  pub place : ℕ
  pub first : FirstNot p rest l k place
  pub named : c ≡ fault (part_of p) (k + place)

module _ (p : ListName) (c : Code) (rest : List ℕ) (l : Lists) (k : ℕ) where
  -- it is the first
  found_here : is_new (first_call p rest l).answer k ≡ false → c ≡ fault (part_of p) k → Found p c rest l k
  found_here t e =
      let z : k + 0 ≡ k = omega arith in
      record {
        place = 0;
        first = record {
          before = λ i h. let none : ⊥ = omega arith in absurd none;
          here = λ h. both_ways _ t (is_new_lem (first_call p rest l).answer k (h ∙ ap Ok z));
        };
        named = e ∙ ap (fault (part_of p)) (sym z);
      }

  earlier : (i : ℕ) → FirstNot p (drop (width_of p) rest) (first_call p rest l).lists (k + 1) i → is_new (first_call p rest l).answer k ≡ true
      → (j : ℕ) → j < suc i → answer_at p rest l j ≡ Ok (k + j)
  earlier i f t zero h = let z : k ≡ k + 0 = omega arith in new_is (first_call p rest l).answer k t ∙ ap Ok z
  earlier i f t (suc j) h = let one : (k + 1) + j ≡ k + suc j = omega arith in f.before j (omega arith) ∙ ap Ok one

  -- the first is new, and it is found among the others
  found_later : is_new (first_call p rest l).answer k ≡ true → Found p c (drop (width_of p) rest) (first_call p rest l).lists (k + 1) → Found p c rest l k
  found_later t f =
      let one : (k + 1) + f.place ≡ k + suc f.place = omega arith in
      record {
        place = suc f.place;
        first = record { before = earlier f.place f.first t; here = λ h. f.first.here (h ∙ ap Ok (sym one)) };
        named = f.named ∙ ap (fault (part_of p)) one;
      }

  found_either : (b : Bool) (others : Result Lists Code) → is_new (first_call p rest l).answer k ≡ b → cond b others (Err (fault (part_of p) k)) ≡ Err c
      → (others ≡ Err c → Found p c (drop (width_of p) rest) (first_call p rest l).lists (k + 1)) → Found p c rest l k
  found_either true others t e f = found_later t (f e)
  found_either false others t e f = found_here t (err_same (fault (part_of p) k) c e)

record_cause : (p : ListName) (c : Code) (n : ℕ) (rest : List ℕ) (l : Lists) (k : ℕ) → built_from p rest l k n ≡ Err c → Found p c rest l k
record_cause p c zero rest l k e = absurd (never l c e)
record_cause p c (suc n) rest l k e =
    found_either p c rest l k (is_new (first_call p rest l).answer k) _ refl e
    (λ f. record_cause p c n (drop (width_of p) rest) (first_call p rest l).lists (k + 1) f)

module _ (bytes : List ℕ) (c : Code) (end : ℕ) (good : contents_end bytes ≡ Ok end) (first : firsts bytes ≡ Ok tt) where
  parts_cause : (before ps : List ListName) (l : Lists) → in_order ≡ before ++ ps → built_parts bytes before new_lists ≡ Ok l → built_parts bytes ps l ≡ Err c → Cause bytes c
  parts_cause before [] l whole e f = absurd (never l c f)
  parts_cause before (p ∷ ps) l whole e f = elim (then_err (built_part bytes p l) (built_parts bytes ps) c f) [
    | inl h ↦
        let f = record_cause p c (count_at bytes p - least_of p) (drop (least_of p * width_of p) (body_in p bytes)) l (least_of p) h in
        later end before ps p l f.place good first whole e f.first f.named
    | inr (m, h) ↦
        parts_cause (before ++ p ∷ []) ps m (whole ∙ sym (append_assoc before (p ∷ []) ps))
        (steps_push (built_part bytes) before p new_lists ∙ ap (λ r. and_then r (built_part bytes p)) e ∙ h.0) h.1
  ]

pub caused : (bytes : List ℕ) (c : Code) → read_lists bytes ≡ Err c → Cause bytes c
unfolding read_lists
caused bytes c e = elim (then_err (contents_end bytes) (λ _. and_then (firsts bytes) (λ _. built_parts bytes in_order new_lists)) c e) [
  | inl h ↦ contents_cause bytes c h
  | inr (end, h) ↦ elim (then_err (firsts bytes) (λ _. built_parts bytes in_order new_lists) c h.1) [
    | inl f ↦ firsts_cause bytes c end h.0 [] new_entities 0 refl refl refl f
    | inr (u, f) ↦ parts_cause bytes c end h.0 f.0 [] in_order new_lists refl refl f.1
  ]
]
