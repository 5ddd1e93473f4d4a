-- Bytes written one after another.
use Rattle.std.proofs.Common.{◌≡◌, ℕ, ◌+◌, ◌≤◌, List, [], ◌++◌, length, take, drop, sym, ap, ◌∙◌, append_assoc, subst, arith}
use Rattle.std.proofs.Math.Seq.{take-append_seam, drop-append-add}
use Rattle.std.proofs.lemmas.List.{length-append, length-drop, length-take-le, take-append-drop, drop-drop}
use Rattle.listing.specs.Puts.{Puts}

-- a room in three parts
module _ (front bytes back : List ℕ) where
  parts_long : length (front ++ (bytes ++ back)) ≡ length front + (length bytes + length back)
  parts_long = length-append front (bytes ++ back) ∙ ap (λ n. length front + n) (length-append bytes back)

  parts_head : take (length front + length bytes) (front ++ (bytes ++ back)) ≡ front ++ bytes
  parts_head =
      ap (λ xs. take (length front + length bytes) xs) (sym (append_assoc front bytes back))
      ∙ ap (λ n. take n ((front ++ bytes) ++ back)) (sym (length-append front bytes))
      ∙ take-append_seam (front ++ bytes) back

  parts_tail : (n : ℕ) → drop ((length front + length bytes) + n) (front ++ (bytes ++ back)) ≡ drop n back
  parts_tail n =
      ap (λ xs. drop ((length front + length bytes) + n) xs) (sym (append_assoc front bytes back))
      ∙ ap (λ k. drop (k + n) ((front ++ bytes) ++ back)) (sym (length-append front bytes))
      ∙ drop-append-add (front ++ bytes) back n

module _ {at end : ℕ} {bytes old new : List ℕ} (p : Puts at bytes old new end) where
  front_long : length (take at old) ≡ at
  front_long = length-take-le at old (omega (arith, p.inside))

  pub puts_long : length new ≡ length old
  puts_long =
      ap length p.room ∙ parts_long (take at old) bytes (drop (at + length bytes) old)
      ∙ omega (arith, front_long, length-drop (at + length bytes) old, p.inside)

  pub puts_head : take (at + length bytes) new ≡ take at old ++ bytes
  puts_head =
      ap (take (at + length bytes)) p.room
      ∙ ap (λ n. take (n + length bytes) (take at old ++ (bytes ++ drop (at + length bytes) old))) (sym front_long)
      ∙ parts_head (take at old) bytes (drop (at + length bytes) old)

  pub puts_tail : (n : ℕ) → drop ((at + length bytes) + n) new ≡ drop ((at + length bytes) + n) old
  puts_tail n =
      ap (drop ((at + length bytes) + n)) p.room
      ∙ ap (λ k. drop ((k + length bytes) + n) (take at old ++ (bytes ++ drop (at + length bytes) old))) (sym front_long)
      ∙ parts_tail (take at old) bytes (drop (at + length bytes) old) n
      ∙ drop-drop n (at + length bytes) old

-- nothing is written
pub puts_none : (at : ℕ) (old : List ℕ) → at ≤ length old → Puts at [] old old at
puts_none at old h = record { inside = omega (arith, h); place = omega arith; room = sym (take-append-drop at old) ∙ ap (λ n. take at old ++ drop n old) (omega arith) }

-- some bytes are written, and then others
pub puts_then : {at mid end : ℕ} {xs ys a b c : List ℕ} → Puts at xs a b mid → Puts mid ys b c end → Puts at (xs ++ ys) a c end
puts_then {at} {mid} {end} {xs} {ys} {a} {b} {c} p q =
    let n : length (xs ++ ys) ≡ length xs + length ys = length-append xs ys in
    let e : mid ≡ at + length xs = p.place in
    record {
      inside = omega (arith, n, e, q.inside, puts_long p);
      place = omega (arith, n, e, q.place);
      room =
          q.room
          ∙ ap (λ k. take k b ++ (ys ++ drop (k + length ys) b)) e
          ∙ ap (λ zs. zs ++ (ys ++ drop ((at + length xs) + length ys) b)) (puts_head p)
          ∙ ap (λ zs. (take at a ++ xs) ++ (ys ++ zs)) (puts_tail p (length ys))
          ∙ append_assoc (take at a) xs (ys ++ drop ((at + length xs) + length ys) a)
          ∙ ap (λ zs. take at a ++ zs) (sym (append_assoc xs ys (drop ((at + length xs) + length ys) a)))
          ∙ ap (λ k. take at a ++ ((xs ++ ys) ++ drop k a)) (omega (arith, n));
    }

-- what was written at the front of a room, and what is behind it
pub puts_front : {after : ℕ} {bytes old new : List ℕ} → Puts 0 bytes old new after → take after new ≡ bytes
puts_front {new = new} p = ap (λ n. take n new) (p.place) ∙ puts_head p

pub puts_back : {after : ℕ} {bytes old new : List ℕ} → Puts 0 bytes old new after → drop after new ≡ drop after old
puts_back {after} {bytes} {old} {new} p =
    ap (λ n. drop n new) (p.place ∙ omega arith) ∙ puts_tail p 0 ∙ ap (λ n. drop n old) (omega (arith, p.place))

-- the place after what was written, by another name
pub puts_to : {at m n : ℕ} {bytes old new : List ℕ} → m ≡ n → Puts at bytes old new m → Puts at bytes old new n
puts_to {at} {bytes = bytes} {old} {new} e p = subst (Puts at bytes old new) e p
