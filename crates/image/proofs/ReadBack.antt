-- Bytes that read are the image of the lists that they read as.
use Rattle.std.proofs.Common.{◌≡◌, ℕ, ◌+◌, ◌-◌, ◌*◌, ◌/◌, ◌%◌, ◌<◌, ◌≤◌, true, List, [], ◌∷◌, ◌++◌, length, take, drop, Ok, sym, refl, ap, ◌∙◌, subst, arith}
use Rattle.std.specs.List.{flat_map}
use Rattle.std.proofs.lemmas.List.{drop_more, drop-drop, drop_all, take_all, take-append-drop, length-append, length-drop, take-take}
use Rattle.std.proofs.lemmas.Bool.{eqb-true, and_parts}
use Rattle.access.specs.declared.entities.Entity.{Entity}
use Rattle.access.specs.declared.rights.RightRecord.{RightRecord}
use Rattle.access.specs.declared.roles.Link.{Link}
use Rattle.access.specs.declared.roles.Member.{Member}
use Rattle.access.specs.declared.code.Line.{Line}
use Rattle.access.specs.Lists.{Lists, new_entities, new_lists}
use Rattle.catalogue.specs.declared.names.ListName.{ListName}
use Rattle.catalogue.specs.declared.names.ListName.TheVariants.{Entities, Links, Rights, Members, Lines}
use Rattle.catalogue.specs.Calls.{with_entities, with_links, with_rights, with_members, with_lines}
use Rattle.catalogue.specs.Counts.{count_of}
use Rattle.image.specs.Layout.{width_of, least_of}
use Rattle.image.specs.Bytes.{entity_bytes, link_bytes, right_bytes, member_bytes, line_bytes}
use Rattle.image.specs.Encoding.{entry_bytes, body_of, contents, bodies, encode}
use Rattle.image.specs.Reading.{byte, fault, start_at, count_at, body_in, built_part, same_at, first_at, firsts_from, firsts, read_lists, Laid}
use Rattle.image.proofs.Counting.{body_is, joined_map, encode_is}
use Rattle.image.proofs.Calling.{entity_made, link_made, right_made, member_made, line_made}
use Rattle.image.proofs.Feeding.{Table, Makes, Fed, fed, ok_same}
use Rattle.image.proofs.Entries.{then_ok, cond_ok, Entry, Good, laid, firsts_inside, cut, body_long, Passed, reads_passed}
use Rattle.image.proofs.Widths.{two_parts}
use Rattle.std.proofs.Math.Seq.{take-add}
use Rattle.std.proofs.lemmas.Grind.{flat_map-append}

-- the five lists

abbrev pub entity_table : Table Entity
entity_table = record { list = Entities; get = λ l. l.entities; put = with_entities; bytes = entity_bytes; put_get = λ l. refl; get_put = λ l xs. refl; put_put = λ l xs ys. refl }

abbrev pub link_table : Table Link
link_table = record { list = Links; get = λ l. l.links; put = with_links; bytes = link_bytes; put_get = λ l. refl; get_put = λ l xs. refl; put_put = λ l xs ys. refl }

abbrev pub right_table : Table RightRecord
right_table = record { list = Rights; get = λ l. l.rights; put = with_rights; bytes = right_bytes; put_get = λ l. refl; get_put = λ l xs. refl; put_put = λ l xs ys. refl }

abbrev pub member_table : Table Member
member_table = record { list = Members; get = λ l. l.members; put = with_members; bytes = member_bytes; put_get = λ l. refl; get_put = λ l xs. refl; put_put = λ l xs ys. refl }

abbrev pub line_table : Table Line
line_table = record { list = Lines; get = λ l. l.lines; put = with_lines; bytes = line_bytes; put_get = λ l. refl; get_put = λ l xs. refl; put_put = λ l xs ys. refl }

-- The bodies

pub less_wide : (p : ListName) (c : ℕ) → least_of p ≤ c → (c - least_of p) * width_of p ≡ c * width_of p - least_of p * width_of p
less_wide p c h = omega (arith, two_parts (least_of p) c (width_of p) h)

-- the records that a body added
part_fed : {X : Type 0} (t : Table X) → Makes t → (bytes : List ℕ) (l after : Lists) → Laid bytes t.list → least_of t.list ≡ length (t.get l)
    → built_part bytes t.list l ≡ Ok after
    → Fed t l after (count_at bytes t.list - least_of t.list) (drop (least_of t.list * width_of t.list) (body_in t.list bytes))
part_fed t makes bytes l after h same e =
    let p = t.list in
    let rest = drop (least_of p * width_of p) (body_in p bytes) in
    let n = count_at bytes p - least_of p in
    let long : length rest ≡ n * width_of p =
    length-drop (least_of p * width_of p) (body_in p bytes) ∙ ap (λ m. m - least_of p * width_of p) (body_long bytes p h) ∙ sym (less_wide p (count_at bytes p) h.least) in
    let f = fed t makes n l (least_of p) after rest same (omega arith) e in
    record { items = f.items; lists = f.lists; coded = f.coded ∙ take_all (n * width_of p) rest (omega arith); count = f.count }

-- the first entities

four_at : (bytes : List ℕ) (a : ℕ) → a + 4 ≤ length bytes → take 4 (drop a bytes) ≡ byte bytes a ∷ byte bytes (a + 1) ∷ byte bytes (a + 2) ∷ byte bytes (a + 3) ∷ []
four_at bytes a h =
    let two : (a + 1) + 1 ≡ a + 2 = omega arith in
    let three : (a + 2) + 1 ≡ a + 3 = omega arith in
    ap (take 4) (drop_more bytes a 0 (omega arith)
    ∙ ap (λ bs. byte bytes a ∷ bs) (drop_more bytes (a + 1) 0 (omega arith)
    ∙ ap (λ i. byte bytes (a + 1) ∷ drop i bytes) two
    ∙ ap (λ bs. byte bytes (a + 1) ∷ bs) (drop_more bytes (a + 2) 0 (omega arith)
    ∙ ap (λ i. byte bytes (a + 2) ∷ drop i bytes) three
    ∙ ap (λ bs. byte bytes (a + 2) ∷ bs) (drop_more bytes (a + 3) 0 (omega arith)))))

same_four : (bytes : List ℕ) (at a b c d : ℕ) → at + 4 ≤ length bytes → same_at bytes at (a ∷ b ∷ c ∷ d ∷ []) ≡ true → take 4 (drop at bytes) ≡ a ∷ b ∷ c ∷ d ∷ []
same_four bytes at a b c d h e =
    let third : at + 2 ≡ (at + 1) + 1 = omega arith in
    let fourth : at + 3 ≡ ((at + 1) + 1) + 1 = omega arith in
    let one = and_parts _ _ e in
    let two = and_parts _ _ one.1 in
    let three = and_parts _ _ two.1 in
    let four = and_parts _ _ three.1 in
    let e1 : byte bytes at ≡ a = eqb-true _ _ one.0 in
    let e2 : byte bytes (at + 1) ≡ b = eqb-true _ _ two.0 in
    let e3 : byte bytes (at + 2) ≡ c = ap (byte bytes) third ∙ eqb-true _ _ three.0 in
    let e4 : byte bytes (at + 3) ≡ d = ap (byte bytes) fourth ∙ eqb-true _ _ four.0 in
    four_at bytes at h ∙ simp (e1, e2, e3, e4)

firsts_from_lem : (bytes : List ℕ) (k : ℕ) (es : List Entity) (u : Unit {0}) → 20 + (k + length es) * 4 ≤ length bytes → firsts_from bytes k es ≡ Ok u → take (length es * 4) (drop (20 + k * 4) bytes) ≡ flat_map entity_bytes es
firsts_from_lem bytes k [] u h e = refl
firsts_from_lem bytes k (x ∷ es) u h e =
    let r = then_ok (first_at bytes k x) (λ _. firsts_from bytes (k + 1) es) u e in
    let same = cond_ok (same_at bytes (20 + k * 4) (entity_bytes x)) tt r.0 (fault 1 k) r.1.0 in
    let four = same_four bytes (20 + k * 4) _ _ _ _ (omega arith) same.0 in
    let rest = firsts_from_lem bytes (k + 1) es u (omega arith) r.1.1 in
    let n : length (x ∷ es) * 4 ≡ 4 + length es * 4 = omega arith in
    let place : (20 + k * 4) + 4 ≡ 20 + (k + 1) * 4 = omega arith in
    ap (λ i. take i (drop (20 + k * 4) bytes)) n
    ∙ take-add 4 (length es * 4) (drop (20 + k * 4) bytes)
    ∙ ap (λ bs. take 4 (drop (20 + k * 4) bytes) ++ take (length es * 4) bs) (drop-drop 4 (20 + k * 4) bytes ∙ ap (λ i. drop i bytes) place)
    ∙ ap (λ bs. take 4 (drop (20 + k * 4) bytes) ++ bs) rest
    ∙ ap (λ bs. bs ++ flat_map entity_bytes es) four

firsts_body : (bytes : List ℕ) → Good bytes → firsts bytes ≡ Ok tt → take 12 (body_in Entities bytes) ≡ flat_map entity_bytes new_entities
firsts_body bytes g e =
    let s = start_at bytes Entities in
    let n = count_at bytes Entities * 4 in
    ap (take 12) (cut bytes s n)
    ∙ take-take 12 n (drop s bytes) (omega (arith, g.whole.r0.least))
    ∙ ap (λ i. take 12 (drop i bytes)) g.whole.r0.start
    ∙ firsts_from_lem bytes 0 new_entities tt (firsts_inside bytes g) e

-- the lists that were read have the bodies and the counts of the bytes
pub record Read (bytes : List ℕ) (l : Lists) : Type 0 where
  pub body : (p : ListName) → body_of l p ≡ body_in p bytes
  pub count : (p : ListName) → count_of l p ≡ count_at bytes p

abbrev pub stood : List Entity → List Link → List RightRecord → List Member → List Line → Lists
stood es ks rs ms cs = record { entities = new_entities ++ es; links = ks; rights = rs; members = ms; lines = cs }

-- the lists by their records
read_stood : (bytes : List ℕ) (es : List Entity) (ks : List Link) (rs : List RightRecord) (ms : List Member) (cs : List Line) (l : Lists) → l ≡ stood es ks rs ms cs
    → flat_map entity_bytes new_entities ++ flat_map entity_bytes es ≡ body_in Entities bytes → flat_map link_bytes ks ≡ body_in Links bytes → flat_map right_bytes rs ≡ body_in Rights bytes
    → flat_map member_bytes ms ≡ body_in Members bytes → flat_map line_bytes cs ≡ body_in Lines bytes
    → 3 + length es ≡ count_at bytes Entities → length ks ≡ count_at bytes Links → length rs ≡ count_at bytes Rights
    → length ms ≡ count_at bytes Members → length cs ≡ count_at bytes Lines → Read bytes l
read_stood bytes es ks rs ms cs l e b0 b1 b2 b3 b4 c0 c1 c2 c3 c4 =
    subst (Read bytes) (sym e) (record { body = body; count = count })
  where
    body : (p : ListName) → body_of (stood es ks rs ms cs) p ≡ body_in p bytes
    body Entities = sym (body_is (stood es ks rs ms cs) Entities) ∙ joined_map entity_bytes (new_entities ++ es) ∙ flat_map-append entity_bytes new_entities es ∙ b0
    body Links = sym (body_is (stood es ks rs ms cs) Links) ∙ joined_map link_bytes ks ∙ b1
    body Rights = sym (body_is (stood es ks rs ms cs) Rights) ∙ joined_map right_bytes rs ∙ b2
    body Members = sym (body_is (stood es ks rs ms cs) Members) ∙ joined_map member_bytes ms ∙ b3
    body Lines = sym (body_is (stood es ks rs ms cs) Lines) ∙ joined_map line_bytes cs ∙ b4

    count : (p : ListName) → count_of (stood es ks rs ms cs) p ≡ count_at bytes p
    count Entities = length-append new_entities es ∙ c0
    count Links = c1
    count Rights = c2
    count Members = c3
    count Lines = c4

pub read_read : (bytes : List ℕ) (l : Lists) → Passed bytes l → Read bytes l
read_read bytes l passed =
    let g = laid bytes passed.good in
    let b0 = then_ok (built_part bytes Entities new_lists) _ l passed.built in
    let b1 = then_ok (built_part bytes Links b0.0) _ l b0.1.1 in
    let b2 = then_ok (built_part bytes Rights b1.0) _ l b1.1.1 in
    let b3 = then_ok (built_part bytes Members b2.0) _ l b2.1.1 in
    let b4 = then_ok (built_part bytes Lines b3.0) _ l b3.1.1 in
    let f0 = part_fed entity_table entity_made bytes new_lists b0.0 (g Entities) refl b0.1.0 in
    let to0 : b0.0 ≡ stood f0.items [] [] [] [] = f0.lists in
    let f1 = part_fed link_table link_made bytes b0.0 b1.0 (g Links) (sym (ap (λ m. length m.links) to0)) b1.1.0 in
    let to1 : b1.0 ≡ stood f0.items f1.items [] [] [] = f1.lists ∙ ap (λ m. with_links m (m.links ++ f1.items)) to0 in
    let f2 = part_fed right_table right_made bytes b1.0 b2.0 (g Rights) (sym (ap (λ m. length m.rights) to1)) b2.1.0 in
    let to2 : b2.0 ≡ stood f0.items f1.items f2.items [] [] = f2.lists ∙ ap (λ m. with_rights m (m.rights ++ f2.items)) to1 in
    let f3 = part_fed member_table member_made bytes b2.0 b3.0 (g Members) (sym (ap (λ m. length m.members) to2)) b3.1.0 in
    let to3 : b3.0 ≡ stood f0.items f1.items f2.items f3.items [] = f3.lists ∙ ap (λ m. with_members m (m.members ++ f3.items)) to2 in
    let f4 = part_fed line_table line_made bytes b3.0 b4.0 (g Lines) (sym (ap (λ m. length m.lines) to3)) b4.1.0 in
    let to4 : b4.0 ≡ stood f0.items f1.items f2.items f3.items f4.items = f4.lists ∙ ap (λ m. with_lines m (m.lines ++ f4.items)) to3 in
    read_stood bytes f0.items f1.items f2.items f3.items f4.items l (sym (ok_same b4.0 l b4.1.1) ∙ to4)
    (ap (λ bs. bs ++ flat_map entity_bytes f0.items) (sym (firsts_body bytes passed.good passed.first)) ∙ ap (λ bs. take 12 (body_in Entities bytes) ++ bs) f0.coded ∙ take-append-drop 12 (body_in Entities bytes))
    f1.coded f2.coded f3.coded f4.coded
    (omega (arith, f0.count, (g Entities).least)) (omega (arith, f1.count)) (omega (arith, f2.count)) (omega (arith, f3.count)) (omega (arith, f4.count))

-- The whole

-- a body and what follows it
piece : (bytes : List ℕ) (s n e : ℕ) → e ≡ s + n → take n (drop s bytes) ++ drop e bytes ≡ drop s bytes
piece bytes s n e h =
    ap (λ i. take n (drop s bytes) ++ drop i bytes) h
    ∙ ap (λ bs. take n (drop s bytes) ++ bs) (sym (drop-drop n s bytes))
    ∙ take-append-drop n (drop s bytes)

body_on : (bytes : List ℕ) (p : ListName) (at end : ℕ) (b tail : List ℕ) → Entry bytes p at end → b ≡ body_in p bytes → tail ≡ drop end bytes → b ++ tail ≡ drop at bytes
body_on bytes p at end b tail entry e f =
    let n = count_at bytes p * width_of p in
    ap (λ c. c ++ tail) (e ∙ cut bytes (start_at bytes p) n ∙ ap (λ i. take n (drop i bytes)) entry.start)
    ∙ ap (λ c. take n (drop at bytes) ++ c) f
    ∙ piece bytes at n end entry.ends

bodies_back : (bytes : List ℕ) (l : Lists) → Good bytes → Read bytes l → bodies l ≡ drop 20 bytes
unfolding bodies
bodies_back bytes l g r =
    let w = g.whole in
    let none : [] ≡ drop g.e4 bytes = sym (drop_all g.e4 bytes (omega (arith, w.end))) in
    body_on bytes Entities 20 g.e0 (body_of l Entities) _ w.r0 (r.body Entities)
    (body_on bytes Links g.e0 g.e1 (body_of l Links) _ w.r1 (r.body Links)
    (body_on bytes Rights g.e1 g.e2 (body_of l Rights) _ w.r2 (r.body Rights)
    (body_on bytes Members g.e2 g.e3 (body_of l Members) _ w.r3 (r.body Members)
    (body_on bytes Lines g.e3 g.e4 (body_of l Lines) [] w.r4 (r.body Lines) none))))

-- a list of bytes
abbrev pub Bytes : List ℕ → Type 0
Bytes bytes = (i : ℕ) → byte bytes i < 256

entry_back : (bytes : List ℕ) (k : ℕ) (start count : ℕ) (tail : List ℕ) → Bytes bytes → k + 4 ≤ length bytes
    → byte bytes k * 256 + byte bytes (k + 1) ≡ start → byte bytes (k + 2) * 256 + byte bytes ((k + 2) + 1) ≡ count
    → tail ≡ drop (k + 4) bytes → entry_bytes start count ++ tail ≡ drop k bytes
entry_back bytes k start count tail small h es ec et =
    let b0 = small k in
    let b1 = small (k + 1) in
    let b2 = small (k + 2) in
    let b3 = small (k + 3) in
    let same : byte bytes ((k + 2) + 1) ≡ byte bytes (k + 3) = ap (byte bytes) (omega arith) in
    let q0 : start / 256 ≡ byte bytes k = omega arith in
    let q1 : start % 256 ≡ byte bytes (k + 1) = omega arith in
    let q2 : count / 256 ≡ byte bytes (k + 2) = omega arith in
    let q3 : count % 256 ≡ byte bytes (k + 3) = omega arith in
    let front : entry_bytes start count ≡ take 4 (drop k bytes) = simp (q0, q1, q2, q3) (sym (four_at bytes k h)) in
    ap (λ bs. bs ++ tail) front
    ∙ ap (λ bs. take 4 (drop k bytes) ++ bs) (et ∙ sym (drop-drop 4 k bytes))
    ∙ take-append-drop 4 (drop k bytes)

contents_back : (bytes : List ℕ) (l : Lists) (tail : List ℕ) → Good bytes → Bytes bytes → Read bytes l → tail ≡ drop 20 bytes → contents l ++ tail ≡ bytes
unfolding contents
contents_back bytes l tail g small r e =
    let w = g.whole in
    let h = w.head in
    let c = r.count in
    let s0 : ℕ = 20 in
    let s1 = s0 + count_of l Entities * 4 in
    let s2 = s1 + count_of l Links * 2 in
    let s3 = s2 + count_of l Rights * 4 in
    let s4 = s3 + count_of l Members * 2 in
    entry_back bytes 0 s0 (count_of l Entities) _ small (omega arith) w.r0.start (sym (c Entities))
    (entry_back bytes 4 s1 (count_of l Links) _ small (omega arith) (omega (arith, w.r1.start, w.r0.ends, c Entities)) (sym (c Links))
    (entry_back bytes 8 s2 (count_of l Rights) _ small (omega arith) (omega (arith, w.r2.start, w.r1.ends, w.r0.ends, c Entities, c Links)) (sym (c Rights))
    (entry_back bytes 12 s3 (count_of l Members) _ small (omega arith) (omega (arith, w.r3.start, w.r2.ends, w.r1.ends, w.r0.ends, c Entities, c Links, c Rights)) (sym (c Members))
    (entry_back bytes 16 s4 (count_of l Lines) tail small (omega arith) (omega (arith, w.r4.start, w.r3.ends, w.r2.ends, w.r1.ends, w.r0.ends, c Entities, c Links, c Rights, c Members)) (sym (c Lines)) e))))

-- what reads is written back as the same bytes
pub read_back : (bytes : List ℕ) (l : Lists) → Bytes bytes → read_lists bytes ≡ Ok l → encode l ≡ bytes
read_back bytes l small e =
    let passed = reads_passed bytes l e in
    let r = read_read bytes l passed in
    encode_is l ∙ contents_back bytes l (bodies l) passed.good small r (bodies_back bytes l passed.good r)
