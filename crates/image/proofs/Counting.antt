-- How many records and bytes the lists of a book have.
use Rattle.std.proofs.Common.{◌≡◌, ℕ, zero, suc, ◌+◌, ◌*◌, ◌<◌, ◌≤◌, List, [], ◌∷◌, ◌++◌, map, length, get_or, drop, sym, refl, ap, ◌∙◌, suc-mul, arith}
use Rattle.std.specs.List.{slice_get, flat_map, sum_by}
use Rattle.std.proofs.lemmas.List.{length-append, length-map, drop_more, drop_all}
use Rattle.access.specs.Lists.{Lists}
use Rattle.catalogue.specs.declared.names.ListName.{ListName}
use Rattle.catalogue.specs.declared.names.ListName.TheVariants.{Entities, Links, Rights, Members, Lines}
use Rattle.catalogue.specs.Counts.{count_of}
use Rattle.catalogue.specs.Sound.{Kept}
use Rattle.catalogue.proofs.Declaring.{entities_few, declared_long}
use Rattle.catalogue.proofs.Unique.{kept_out}
use Rattle.book.specs.declared.books.Book.{Book}
use Rattle.book.specs.Meaning.{lists_of}
use Rattle.image.specs.Layout.{in_order, width_of, least_of, most_of}
use Rattle.image.specs.Bytes.{entity_bytes, link_bytes, right_bytes, member_bytes, line_bytes, records_of, strung, bytes_or, record_at}
use Rattle.image.specs.Encoding.{entry_bytes, entries_from, end_from, body_of, contents, bodies, encode}
use Rattle.std.proofs.lemmas.List.Folds.{flat_map-map}

pub kept_most : (l : Lists) → Kept l → (p : ListName) → count_of l p ≤ most_of p
kept_most l k Entities = entities_few l.entities k.entities
kept_most l k Links = k.links.few
kept_most l k Rights = k.rights.few
kept_most l k Members = k.members.few
kept_most l k Lines = k.lines.few

pub kept_least : (l : Lists) → Kept l → (p : ListName) → least_of p ≤ count_of l p
kept_least l k Entities = declared_long l.entities k.entities
kept_least l k Links = omega arith
kept_least l k Rights = omega arith
kept_least l k Members = omega arith
kept_least l k Lines = omega arith

pub book_kept : (b : Book) → Kept (lists_of b)
book_kept b = kept_out (lists_of b) b.kept

pub body_small : (p : ListName) (n : ℕ) → n ≤ most_of p → n * width_of p ≤ 1792
body_small Entities n h = omega arith
body_small Links n h = omega arith
body_small Rights n h = omega arith
body_small Members n h = omega arith
body_small Lines n h = omega arith

pub book_small : (b : Book) (p : ListName) → count_of (lists_of b) p * width_of p ≤ 1792
book_small b p = body_small p _ (kept_most (lists_of b) (book_kept b) p)

pub most_small : (p : ListName) → most_of p ≤ 256
most_small Entities = omega arith
most_small Links = omega arith
most_small Rights = omega arith
most_small Members = omega arith
most_small Lines = omega arith

pub book_few : (b : Book) (p : ListName) → count_of (lists_of b) p ≤ 256
book_few b p = omega (arith, kept_most (lists_of b) (book_kept b) p, most_small p)

-- the records of a list as bytes

pub records_length : (l : Lists) (p : ListName) → length (records_of l p) ≡ count_of l p
records_length l Entities = length-map l.entities entity_bytes
records_length l Links = length-map l.links link_bytes
records_length l Rights = length-map l.rights right_bytes
records_length l Members = length-map l.members member_bytes
records_length l Lines = length-map l.lines line_bytes

at_map : {X : Type 0} (f : X → List ℕ) (xs : List X) (n : ℕ) → get_or (map f xs) n [] ≡ bytes_or f (slice_get xs n)
at_map f [] n = refl
at_map f (x ∷ xs) zero = refl
at_map f (x ∷ xs) (suc n) = at_map f xs n

pub records_at : (l : Lists) (p : ListName) (n : ℕ) → get_or (records_of l p) n [] ≡ record_at l p n
records_at l Entities n = at_map entity_bytes l.entities n
records_at l Links n = at_map link_bytes l.links n
records_at l Rights n = at_map right_bytes l.rights n
records_at l Members n = at_map member_bytes l.members n
records_at l Lines n = at_map line_bytes l.lines n

-- the records that are left
pub records_more : (l : Lists) (p : ListName) (n : ℕ) → n < count_of l p → strung (drop n (records_of l p)) ≡ record_at l p n ++ strung (drop (n + 1) (records_of l p))
records_more l p n h =
    ap strung (drop_more (records_of l p) n [] (omega (arith, records_length l p)))
    ∙ ap (λ b. b ++ strung (drop (n + 1) (records_of l p))) (records_at l p n)

pub records_all : (l : Lists) (p : ListName) (n : ℕ) → count_of l p ≤ n → strung (drop n (records_of l p)) ≡ []
records_all l p n h = ap strung (drop_all n (records_of l p) (omega (arith, records_length l p)))

pub body_is : (l : Lists) (p : ListName) → strung (records_of l p) ≡ body_of l p
unfolding body_of
body_is l p = refl

-- the bytes of all records together

pub joined_map : {X : Type 0} (f : X → List ℕ) (xs : List X) → strung (map f xs) ≡ flat_map f xs
joined_map f xs = flat_map-map (λ b. b) f xs

pub joined_length : {X : Type 0} (f : X → List ℕ) (w : ℕ) → ((x : X) → length (f x) ≡ w) → (xs : List X) → length (flat_map f xs) ≡ length xs * w
joined_length f w h [] = sym (omega arith)
joined_length f w h (x ∷ xs) =
    let rest = joined_length f w h xs in
    let here = h x in
    let both = length-append (f x) (flat_map f xs) in
    let more : (length (x ∷ xs)) * w ≡ length xs * w + w = suc-mul (length xs) w in
    omega arith

strung_length : {X : Type 0} (f : X → List ℕ) (w : ℕ) → ((x : X) → length (f x) ≡ w) → (xs : List X) → length (strung (map f xs)) ≡ length xs * w
strung_length f w h xs = ap length (joined_map f xs) ∙ joined_length f w h xs

pub body_length : (l : Lists) (p : ListName) → length (body_of l p) ≡ count_of l p * width_of p
unfolding body_of
body_length l Entities = strung_length entity_bytes 4 (λ x. refl) l.entities
body_length l Links = strung_length link_bytes 2 (λ x. refl) l.links
body_length l Rights = strung_length right_bytes 4 (λ x. refl) l.rights
body_length l Members = strung_length member_bytes 2 (λ x. refl) l.members
body_length l Lines = strung_length line_bytes 7 (λ x. refl) l.lines

-- the end of bodies is where their bytes end
end_bodies : (l : Lists) (at : ℕ) (ps : List ListName) → end_from l at ps ≡ at + length (flat_map (body_of l) ps)
end_bodies l at [] = omega arith
end_bodies l at (p ∷ ps) =
    end_bodies l (at + count_of l p * width_of p) ps
    ∙ omega (arith, body_length l p, length-append (body_of l p) (flat_map (body_of l) ps))

pub contents_length : (l : Lists) → length (contents l) ≡ 20
unfolding contents
contents_length l = refl

pub bodies_is : (l : Lists) → flat_map (body_of l) in_order ≡ bodies l
unfolding bodies
bodies_is l = refl

pub encode_is : (l : Lists) → encode l ≡ contents l ++ bodies l
unfolding encode
encode_is l = refl

pub encode_bodies : (l : Lists) → length (encode l) ≡ 20 + length (bodies l)
encode_bodies l = ap length (encode_is l) ∙ length-append (contents l) (bodies l) ∙ ap (λ n. n + length (bodies l)) (contents_length l)

pub encode_length : (l : Lists) → length (encode l) ≡ end_from l 20 in_order
encode_length l = encode_bodies l ∙ ap (λ bs. 20 + length bs) (sym (bodies_is l)) ∙ sym (end_bodies l 20 in_order)

pub encode_sum : (l : Lists) → length (encode l) ≡ 20 + sum_by (λ p. count_of l p * width_of p) in_order
encode_sum l = encode_length l ∙ omega arith

-- one list more, whatever stands past the last

module _ (l : Lists) (ps : List ListName) (i : ℕ) (d : ListName) (h : i < length ps) where
  pub entries_more : (start n : ℕ) → n ≡ count_of l (get_or ps i d) * width_of (get_or ps i d)
      → entries_from l start (drop i ps) ≡ entry_bytes start (count_of l (get_or ps i d)) ++ entries_from l (start + n) (drop (i + 1) ps)
  entries_more start n e =
      ap (entries_from l start) (drop_more ps i d h)
      ∙ ap (λ m. entry_bytes start (count_of l (get_or ps i d)) ++ entries_from l (start + m) (drop (i + 1) ps)) (sym e)

  pub bodies_more : flat_map (body_of l) (drop i ps) ≡ body_of l (get_or ps i d) ++ flat_map (body_of l) (drop (i + 1) ps)
  bodies_more = ap (flat_map (body_of l)) (drop_more ps i d h)
