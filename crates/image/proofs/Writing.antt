-- A room filled from its front on.
use Rattle.std.proofs.Common.{◌≡◌, ℕ, ◌+◌, ◌-◌, ◌≤◌, List, [], ◌++◌, length, take, drop, sym, refl, ap, ◌∙◌, append_assoc, arith}
use borrow.Rule.Slice.PartMut.{put_mid}
use Rattle.std.proofs.lemmas.List.{append-nil, length-append, length-drop, length-take-le, take_at, take_all, drop-drop}
use Rattle.image.specs.Bytes.{written}

-- bytes that came into a part of a room
pub written_put : (room : List ℕ) (at end : ℕ) (bytes ys : List ℕ) → end ≡ at + length bytes → ys ≡ bytes → put_mid at (end - at) room ys ≡ written room at bytes
written_put room at end bytes ys n e =
    let m : end - at ≡ length bytes = omega arith in
    ap (λ k. take at room ++ (ys ++ drop k (drop at room))) m
    ∙ ap (λ zs. take at room ++ (ys ++ zs)) (drop-drop (length bytes) at room)
    ∙ ap (λ zs. take at room ++ (zs ++ drop (at + length bytes) room)) e

pub part_long : (room : List ℕ) (at end n : ℕ) → end ≡ at + n → end ≤ length room → length (take (end - at) (drop at room)) ≡ n
part_long room at end n e h = length-take-le (end - at) (drop at room) (omega (arith, length-drop at room)) ∙ omega arith

-- when what is left comes behind the front of a room, the room holds the whole
pub record Filled (whole room : List ℕ) (at : ℕ) (left : List ℕ) : Type 0 where
  pub same : take at room ++ left ≡ whole
  pub end : at + length left ≡ length whole
  pub long : length room ≡ length whole

pub filled_none : (whole room : List ℕ) → length room ≡ length whole → Filled whole room 0 whole
filled_none whole room h = record { same = refl; end = omega arith; long = h }

module _ (whole room : List ℕ) (at : ℕ) (left : List ℕ) (h : Filled whole room at left) where
  pub filled_more : (a b after : List ℕ) (n : ℕ) → left ≡ a ++ b → after ≡ written room at a → n ≡ at + length a → Filled whole after n b
  filled_more a b after n e w end =
      let split : length left ≡ length a + length b = ap length e ∙ length-append a b in
      let front : length (take at room) ≡ at = length-take-le at room (omega (arith, h.end, h.long)) in
      let p = take at room ++ a in
      let q = drop (at + length a) room in
      let parts : after ≡ p ++ q = w ∙ sym (append_assoc (take at room) a q) in
      let head : length p ≡ n = length-append (take at room) a ∙ ap (λ k. k + length a) front ∙ sym end in
      let rest = length-drop (at + length a) room in
      record {
        same = ap (λ zs. take n zs ++ b) parts ∙ ap (λ zs. zs ++ b) (take_at p q n head) ∙ append_assoc (take at room) a b ∙ ap (λ zs. take at room ++ zs) (sym e) ∙ h.same;
        end = omega (arith, h.end);
        long = ap length parts ∙ length-append p q ∙ omega (arith, h.end, h.long);
      }

  pub filled_all : left ≡ [] → room ≡ whole
  filled_all e =
      let none : length left ≡ 0 = ap length e in
      sym (take_all at room (omega (arith, h.end, h.long)))
      ∙ sym (append-nil (take at room))
      ∙ ap (λ zs. take at room ++ zs) (sym e)
      ∙ h.same
