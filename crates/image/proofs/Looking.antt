-- A reader finds each record where it stands.
use Rattle.std.proofs.Common.{◌≡◌, ℕ, zero, suc, ◌+◌, ◌*◌, ◌<◌, ◌≤◌, true, List, [], ◌∷◌, ◌++◌, map, length, take, drop, is_some, Some, None, Ok, Err, Option, Result, unwrap_or, sym, refl, ap, ◌∙◌, subst, suc-mul, add_comm, zero-mul, arith}
use Rattle.std.specs.List.{slice_get}
use Rattle.std.specs.Result.{result_ok}
use Rattle.std.proofs.lemmas.List.{drop-drop, length-drop, length-take-le, take_at, drop_at}
use Rattle.access.specs.declared.refusals.Refusal.{Refusal}
use Rattle.access.specs.Codes.{Code, code}
use Rattle.access.specs.Lists.{Lists}
use Rattle.catalogue.specs.declared.names.ListName.{ListName}
use Rattle.catalogue.specs.declared.names.ListName.TheVariants.{Entities, Links, Rights, Members, Lines}
use Rattle.catalogue.specs.Counts.{count_of}
use Rattle.catalogue.specs.Sound.{Sound, Kept}
use Rattle.catalogue.proofs.Keeping.{kept_sound}
use Rattle.catalogue.proofs.Unique.{kept_out}
use Rattle.image.specs.declared.images.Image.{Image}
use Rattle.image.specs.Layout.{width_of, most_of}
use Rattle.image.specs.Bytes.{entity_bytes, link_bytes, right_bytes, member_bytes, line_bytes, strung, bytes_or, record_at}
use Rattle.image.specs.Encoding.{body_of, encode}
use Rattle.image.specs.Reading.{count_at, body_in, read_lists, no_lists, lists_in, AllLaid}
use Rattle.image.specs.Readers.{image_lists, Reads, Fails}
use Rattle.image.proofs.Causing.{caused}
use Rattle.image.proofs.Counting.{kept_most, body_length, body_small}
use Rattle.image.proofs.Entries.{laid, Passed, reads_passed}
use Rattle.image.proofs.ReadBack.{Bytes, read_read, read_back}
use Rattle.image.proofs.WriteRead.{write_reads}
use Rattle.image.proofs.Feeding.{ok_same}
use Rattle.image.proofs.Widths.{within}

-- What a reader means

kept_ok : (r : Result Lists Code) → Kept (unwrap_or (result_ok r) no_lists) → r ≡ Ok (unwrap_or (result_ok r) no_lists)
kept_ok (Ok l) k = refl
kept_ok (Err e) k = let no : ⊥ = omega (arith, ap length k.entities.first) in absurd no

module _ (i : Image) where
  pub image_kept : Kept (image_lists i)
  image_kept = kept_out (image_lists i) i.kept

  pub image_sound : Sound (image_lists i)
  image_sound = kept_sound (image_lists i) image_kept

  passed : Passed i.bytes.now (image_lists i)
  passed = reads_passed i.bytes.now (image_lists i) (kept_ok (read_lists i.bytes.now) image_kept)

  pub image_laid : AllLaid i.bytes.now
  image_laid = laid i.bytes.now passed.good

  pub image_count : (p : ListName) → count_at i.bytes.now p ≡ count_of (image_lists i) p
  image_count p = sym ((read_read i.bytes.now (image_lists i) passed).count p)

  pub image_body : (p : ListName) → body_in p i.bytes.now ≡ body_of (image_lists i) p
  image_body p = sym ((read_read i.bytes.now (image_lists i) passed).body p)

  pub image_few : (p : ListName) → count_of (image_lists i) p ≤ most_of p
  image_few p = kept_most (image_lists i) image_kept p

-- What reading gives

module _ (bytes : List ℕ) (l : Lists) (k : Kept l) (e : Ok l ≡ read_lists bytes) where
  lists_are : lists_in bytes ≡ l
  lists_are = ap (λ r. unwrap_or (result_ok r) no_lists) (sym e)

  pub read_kept : Kept (lists_in bytes)
  read_kept = subst Kept (sym lists_are) k

  pub read_written : Bytes bytes → encode (lists_in bytes) ≡ bytes
  read_written small = ap encode lists_are ∙ read_back bytes l small (sym e)

pub image_reads : (i : Image) → Reads i i.bytes.now
image_reads i =
    let e = kept_ok (read_lists i.bytes.now) (image_kept i) in
    record {
      place = refl;
      lists = e;
      kept = image_kept i;
      sound = image_sound i;
      image = i.written;
      only = λ m h g. ok_same m (image_lists i) (sym (write_reads m h) ∙ ap read_lists g ∙ e);
    }

pub image_fails : (r : Refusal) (bytes : List ℕ) → Err (code r) ≡ read_lists bytes → Fails r bytes
image_fails r bytes f = record {
  first = sym f;
  cause = caused bytes (code r) (sym f);
  unwritten = λ l k same.
      let both : Ok l ≡ Err (code r) = sym (write_reads l k) ∙ ap read_lists same ∙ sym f in
      let z : ◌≡◌ {A = ℕ} 0 1 = cc in
      omega arith;
}

-- The bytes of a record

at_strung : {X : Type 0} (f : X → List ℕ) (w : ℕ) → ((x : X) → length (f x) ≡ w) → (xs : List X) (n : ℕ) → n < length xs
    → take w (drop (n * w) (strung (map f xs))) ≡ bytes_or f (slice_get xs n)
at_strung f w wide [] n h = let no : ⊥ = omega arith in absurd no
at_strung f w wide (x ∷ xs) zero h =
    ap (λ i. take w (drop i (f x ++ strung (map f xs)))) (zero-mul w) ∙ take_at (f x) (strung (map f xs)) w (wide x)
at_strung f w wide (x ∷ xs) (suc n) h =
    let e : suc n * w ≡ w + n * w = suc-mul n w ∙ add_comm (n * w) w in
    ap (λ i. take w (drop i (f x ++ strung (map f xs)))) e
    ∙ ap (take w) (sym (drop-drop (n * w) w (f x ++ strung (map f xs))))
    ∙ ap (λ bs. take w (drop (n * w) bs)) (drop_at (f x) (strung (map f xs)) w (wide x))
    ∙ at_strung f w wide xs n (omega arith)

pub record_in : (l : Lists) (p : ListName) (n : ℕ) → n < count_of l p → take (width_of p) (drop (n * width_of p) (body_of l p)) ≡ record_at l p n
unfolding body_of
record_in l Entities n h = at_strung entity_bytes 4 (λ x. refl) l.entities n h
record_in l Links n h = at_strung link_bytes 2 (λ x. refl) l.links n h
record_in l Rights n h = at_strung right_bytes 4 (λ x. refl) l.rights n h
record_in l Members n h = at_strung member_bytes 2 (λ x. refl) l.members n h
record_in l Lines n h = at_strung line_bytes 7 (λ x. refl) l.lines n h

pub record_inside : (l : Lists) (p : ListName) (n : ℕ) → n < count_of l p → n * width_of p + width_of p ≤ length (body_of l p)
record_inside l p n h = omega (arith, within n (count_of l p) (width_of p) h, body_length l p)

pub record_long : (l : Lists) (p : ListName) (n : ℕ) → n < count_of l p → length (record_at l p n) ≡ width_of p
record_long l p n h =
    let rest = drop (n * width_of p) (body_of l p) in
    ap length (sym (record_in l p n h)) ∙ length-take-le (width_of p) rest (omega (arith, length-drop (n * width_of p) (body_of l p), record_inside l p n h))

pub record_small : (p : ListName) (n c : ℕ) → n < c → c ≤ most_of p → n * width_of p + width_of p ≤ 1792
record_small p n c h m = omega (arith, within n c (width_of p) h, body_small p c m)

-- The record that bytes are

below_some : {X : Type 0} (xs : List X) (n : ℕ) → n < length xs → is_some (slice_get xs n) ≡ true
below_some [] n h = let no : ⊥ = omega arith in absurd no
below_some (x ∷ xs) zero h = refl
below_some (x ∷ xs) (suc n) h = below_some xs n (omega arith)

pub none_past : {X : Type 0} (xs : List X) (n : ℕ) → n < length xs → None ≡ slice_get xs n → ⊥
none_past xs n h e = let t = below_some xs n h in let f = ap is_some e in cc

module _ {X : Type 0} (f : X → List ℕ) (xs : List X) (n : ℕ) (h : n < length xs) where
  pub record_is : (decode : List ℕ → X) → ((x : X) → slice_get xs n ≡ Some x → decode (f x) ≡ x) → Some (decode (bytes_or f (slice_get xs n))) ≡ slice_get xs n
  record_is decode back = go (slice_get xs n) refl (below_some xs n h)
    where
      go : (o : Option X) → slice_get xs n ≡ o → is_some o ≡ true → Some (decode (bytes_or f o)) ≡ o
      go None e s = absurd cc
      go (Some x) e s = ap Some (back x e)
