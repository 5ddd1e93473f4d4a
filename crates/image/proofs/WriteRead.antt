-- What a book holds reads from its image as it stood.
use Rattle.std.proofs.Common.{◌≡◌, ℕ, ◌+◌, ◌-◌, ◌*◌, ◌/◌, ◌%◌, Bool, true, false, cond, eqb, ltb, List, [], ◌∷◌, ◌++◌, length, take, drop, Ok, Err, Decides, Result, sym, refl, ap, ◌∙◌, subst, arith}
use Rattle.std.specs.List.{flat_map}
use Rattle.std.proofs.lemmas.List.{take-append-drop, drop-drop, drop_at, take_at, append-nil}
use Rattle.std.proofs.lemmas.Bool.{eq-eqb, le-leb, le-ltb, and_from, ne_eqb}
use Rattle.access.specs.declared.entities.Entity.{Entity}
use Rattle.access.specs.declared.rights.RightRecord.{RightRecord}
use Rattle.access.specs.declared.roles.Link.{Link}
use Rattle.access.specs.declared.roles.Member.{Member}
use Rattle.access.specs.declared.code.Line.{Line}
use Rattle.access.specs.Codes.{Code}
use Rattle.access.specs.Lists.{Lists, new_entities, new_lists}
use Rattle.access.specs.Orders.{InTurn, RoleBelow, itself, role_below, LinkFits}
use Rattle.access.proofs.Turns.{turn_map}
use Rattle.order.proofs.RoleLaws.{RoleEnds, role_below_lem, ends_none, ends_push}
use Rattle.catalogue.specs.declared.names.ListName.{ListName}
use Rattle.catalogue.specs.declared.names.ListName.TheVariants.{Entities, Links, Rights, Members, Lines}
use Rattle.catalogue.specs.Alike.{same_link, same_right, same_member, same_line}
use Rattle.catalogue.specs.Calls.{with_entities, with_links, with_rights, with_members, with_lines}
use Rattle.catalogue.specs.Counts.{count_of}
use Rattle.catalogue.specs.Sound.{TakesEntity, TakesRight, TakesMember, TakesLine, Kept}
use Rattle.catalogue.proofs.Declaring.{entities_few}
use Rattle.image.specs.Layout.{in_order, index_of, width_of, least_of, most_of}
use Rattle.image.specs.Bytes.{entity_bytes, link_bytes, right_bytes, member_bytes, line_bytes}
use Rattle.image.specs.Encoding.{end_from, body_of, contents, bodies, encode}
use Rattle.image.specs.Reading.{fault, and_then, start_at, count_at, entry_fits, entry_end, end_after, contents_end, body_in, firsts, built_from, built_part, read_lists}
use Rattle.image.proofs.Counting.{kept_least, kept_most, body_is, joined_map, body_length, bodies_is, contents_length, encode_is, encode_length, encode_bodies}
use Rattle.image.proofs.Pushing.{came_new, all_turns}
use Rattle.image.proofs.Calling.{LinkNext, entity_taken, link_taken, right_taken, member_taken, line_taken}
use Rattle.image.proofs.Feeding.{Table, New, takes}
use Rattle.image.proofs.Entries.{cut}
use Rattle.image.proofs.ReadBack.{entity_table, link_table, right_table, member_table, line_table, stood}

-- The contents of an image

two_back : (n : ℕ) → (n / 256) * 256 + n % 256 ≡ n
two_back n = omega arith

-- where the body of a list starts
abbrev place_of : Lists → ListName → ℕ
place_of l Entities = 20
place_of l Links = 20 + count_of l Entities * 4
place_of l Rights = (20 + count_of l Entities * 4) + count_of l Links * 2
place_of l Members = ((20 + count_of l Entities * 4) + count_of l Links * 2) + count_of l Rights * 4
place_of l Lines = (((20 + count_of l Entities * 4) + count_of l Links * 2) + count_of l Rights * 4) + count_of l Members * 2

start_of : (l : Lists) (p : ListName) → start_at (encode l) p ≡ place_of l p
unfolding encode contents
start_of l Entities = two_back 20
start_of l Links = two_back (place_of l Links)
start_of l Rights = two_back (place_of l Rights)
start_of l Members = two_back (place_of l Members)
start_of l Lines = two_back (place_of l Lines)

count_of_lem : (l : Lists) (p : ListName) → count_at (encode l) p ≡ count_of l p
unfolding encode contents
count_of_lem l Entities = two_back (count_of l Entities)
count_of_lem l Links = two_back (count_of l Links)
count_of_lem l Rights = two_back (count_of l Rights)
count_of_lem l Members = two_back (count_of l Members)
count_of_lem l Lines = two_back (count_of l Lines)

entry_ok : (l : Lists) → Kept l → (p : ListName) → entry_end (encode l) p (place_of l p) ≡ Ok (place_of l p + count_of l p * width_of p)
entry_ok l k p =
    let bytes = encode l in
    let at = place_of l p in
    let fits : entry_fits bytes p at ≡ true =
    and_from _ _ (eq-eqb (start_at bytes p) at (start_of l p))
    (and_from _ _ (le-leb (least_of p) (count_at bytes p) (omega (arith, count_of_lem l p, kept_least l k p))) (le-leb (count_at bytes p) (most_of p) (omega (arith, count_of_lem l p, kept_most l k p)))) in
    ap (λ t. cond t (Ok (at + count_at bytes p * width_of p)) (Err (fault 0 (index_of p)))) fits
    ∙ ap (λ n. Ok (at + n * width_of p)) (count_of_lem l p)

contents_ok : (l : Lists) → Kept l → contents_end (encode l) ≡ Ok (end_from l 20 in_order)
contents_ok l k =
    let bytes = encode l in
    let all : end_after bytes in_order 20 ≡ Ok (end_from l 20 in_order) =
    rw (entry_ok l k Entities, entry_ok l k Links, entry_ok l k Rights, entry_ok l k Members, entry_ok l k Lines) in
    let long : ltb (length bytes) 20 ≡ false = le-ltb (length bytes) 20 (omega (arith, encode_bodies l)) in
    let last : Result ℕ Code = and_then (end_after bytes in_order 20) (λ end. cond (eqb (length bytes) end) (Ok end) (Err (fault 0 5))) in
    ap (λ b. cond b (Err (fault 0 5)) last) long
    ∙ ap (λ r. and_then r (λ end. cond (eqb (length bytes) end) (Ok end) (Err (fault 0 5)))) all
    ∙ ap (λ b. cond b (Ok (end_from l 20 in_order)) (Err (fault 0 5))) (eq-eqb (length bytes) (end_from l 20 in_order) (encode_length l))

-- The bodies of an image

drop_bodies : (l : Lists) → drop 20 (encode l) ≡ bodies l
drop_bodies l = ap (drop 20) (encode_is l) ∙ drop_at (contents l) (bodies l) 20 (contents_length l)

-- what stands behind a body
behind : (l : Lists) (p : ListName) (tail : List ℕ) → drop (place_of l p) (encode l) ≡ body_of l p ++ tail → drop (place_of l p + count_of l p * width_of p) (encode l) ≡ tail
behind l p tail e =
    sym (drop-drop (count_of l p * width_of p) (place_of l p) (encode l))
    ∙ ap (drop (count_of l p * width_of p)) e
    ∙ drop_at (body_of l p) tail (count_of l p * width_of p) (body_length l p)

abbrev from : Lists → ListName → List ℕ
from l Entities = flat_map (body_of l) (Links ∷ Rights ∷ Members ∷ Lines ∷ [])
from l Links = flat_map (body_of l) (Rights ∷ Members ∷ Lines ∷ [])
from l Rights = flat_map (body_of l) (Members ∷ Lines ∷ [])
from l Members = flat_map (body_of l) (Lines ∷ [])
from l Lines = []

place_of_lem : (l : Lists) (p : ListName) → drop (place_of l p) (encode l) ≡ body_of l p ++ from l p
place_of_lem l p = go p
  where
    entities : drop (place_of l Entities) (encode l) ≡ body_of l Entities ++ from l Entities
    entities = drop_bodies l ∙ sym (bodies_is l)

    links : drop (place_of l Links) (encode l) ≡ body_of l Links ++ from l Links
    links = behind l Entities (from l Entities) entities

    rights : drop (place_of l Rights) (encode l) ≡ body_of l Rights ++ from l Rights
    rights = behind l Links (from l Links) links

    members : drop (place_of l Members) (encode l) ≡ body_of l Members ++ from l Members
    members = behind l Rights (from l Rights) rights

    go : (p : ListName) → drop (place_of l p) (encode l) ≡ body_of l p ++ from l p
    go Entities = entities
    go Links = links
    go Rights = rights
    go Members = members
    go Lines = behind l Members (from l Members) members

pub body_in_lem : (l : Lists) (p : ListName) → body_in p (encode l) ≡ body_of l p
body_in_lem l p =
    let bytes = encode l in
    let n = count_of l p * width_of p in
    cut bytes (start_at bytes p) (count_at bytes p * width_of p)
    ∙ ap (λ i. take (count_at bytes p * width_of p) (drop i bytes)) (start_of l p)
    ∙ ap (λ i. take (i * width_of p) (drop (place_of l p) bytes)) (count_of_lem l p)
    ∙ ap (take n) (place_of_lem l p)
    ∙ take_at (body_of l p) (from l p) n (body_length l p)

-- The records of a book, each new when it came

off : {P : Type 0} (b : Bool) → Decides b P → (P → ⊥) → b ≡ false
off true d n = absurd (n (d.0 refl))
off false d n = refl

link_next : (es : List Entity) (b : List Link) (x : Link) → RoleEnds es b → LinkFits es b x → LinkNext es b x
link_next es b x roles f = record {
  lower = f.0;
  upper = f.1;
  apart = ne_eqb x.lower x.upper (λ e. f.2 (subst (λ q. RoleBelow es b q x.lower) e (itself f.0)));
  free = off (role_below es b x.upper x.lower) (role_below_lem es b roles x.upper x.lower) f.2;
}

-- the body of a list, from its records
built : {X : Type 0} (t : Table X) (l base : Lists) (before xs : List X) → ((x : X) → length (t.bytes x) ≡ width_of t.list) → least_of t.list ≡ length before
    → drop (least_of t.list * width_of t.list) (body_of l t.list) ≡ flat_map t.bytes xs → count_of l t.list ≡ least_of t.list + length xs
    → InTurn (New t base) before xs → built_part (encode l) t.list (t.put base before) ≡ Ok (t.put base (before ++ xs))
built t l base before xs wide least body count new =
    let p = t.list in
    let n : count_at (encode l) p - least_of p ≡ length xs = omega (arith, count_of_lem l p) in
    ap (λ b. built_from p (drop (least_of p * width_of p) b) (t.put base before) (least_of p) (count_at (encode l) p - least_of p)) (body_in_lem l p)
    ∙ ap (built_from p (drop (least_of p * width_of p) (body_of l p)) (t.put base before) (least_of p)) n
    ∙ takes t wide base xs before (least_of p) (drop (least_of p * width_of p) (body_of l p)) [] least new (body ∙ sym (append-nil (flat_map t.bytes xs)))

module _ (es : List Entity) (ks : List Link) (rs : List RightRecord) (ms : List Member) (cs : List Line) (k : Kept (stood es ks rs ms cs)) where
  abbrev whole : Lists
  whole = stood es ks rs ms cs

  abbrev all : List Entity
  all = new_entities ++ es

  firsts_ok : firsts (encode whole) ≡ Ok tt
  unfolding encode contents bodies body_of
  firsts_ok = refl

  entities_body : drop 12 (body_of whole Entities) ≡ flat_map entity_bytes es
  unfolding body_of
  entities_body = joined_map entity_bytes es

  entities_built : built_part (encode whole) Entities new_lists ≡ Ok (stood es [] [] [] [])
  entities_built =
      built entity_table whole new_lists new_entities es (λ x. refl) refl entities_body (omega arith)
      (turn_map TakesEntity (New entity_table new_lists) (λ _. Unit {0}) (λ b x _ t. entity_taken (with_entities new_lists b) x t) (λ b x _ t. tt) new_entities es tt k.entities.turns)

  links_built : built_part (encode whole) Links (stood es [] [] [] []) ≡ Ok (stood es ks [] [] [])
  links_built =
      let base = stood es [] [] [] [] in
      let turns = turn_map (LinkFits all) (LinkNext all) (RoleEnds all) (link_next all) (ends_push all) [] ks (ends_none all) k.links.linked in
      built link_table whole base [] ks (λ x. refl) refl (sym (body_is whole Links) ∙ joined_map link_bytes ks) (omega arith)
      (came_new same_link 64 (LinkNext all) (New link_table base) (λ b x t fresh room. link_taken (with_links base b) x t fresh room) [] ks turns k.links.once k.links.few)

  rights_built : built_part (encode whole) Rights (stood es ks [] [] []) ≡ Ok (stood es ks rs [] [])
  rights_built =
      let base = stood es ks [] [] [] in
      built right_table whole base [] rs (λ x. refl) refl (sym (body_is whole Rights) ∙ joined_map right_bytes rs) (omega arith)
      (came_new same_right 256 (λ _ x. TakesRight all x) (New right_table base) (λ b x t fresh room. right_taken (with_rights base b) x t fresh room) [] rs (all_turns (TakesRight all) [] rs k.rights.fit) k.rights.once k.rights.few)

  members_built : built_part (encode whole) Members (stood es ks rs [] []) ≡ Ok (stood es ks rs ms [])
  members_built =
      let base = stood es ks rs [] [] in
      built member_table whole base [] ms (λ x. refl) refl (sym (body_is whole Members) ∙ joined_map member_bytes ms) (omega arith)
      (came_new same_member 128 (λ _ x. TakesMember all x) (New member_table base) (λ b x t fresh room. member_taken (with_members base b) x t fresh room) [] ms (all_turns (TakesMember all) [] ms k.members.fit) k.members.once k.members.few)

  lines_built : built_part (encode whole) Lines (stood es ks rs ms []) ≡ Ok (stood es ks rs ms cs)
  lines_built =
      let base = stood es ks rs ms [] in
      let few = entities_few all k.entities in
      built line_table whole base [] cs (λ x. refl) refl (sym (body_is whole Lines) ∙ joined_map line_bytes cs) (omega arith)
      (came_new same_line 256 (λ _ x. TakesLine all x) (New line_table base) (λ b x t fresh room. line_taken (with_lines base b) x few t fresh room) [] cs (all_turns (TakesLine all) [] cs k.lines.fit) k.lines.once k.lines.few)

  stood_reads : read_lists (encode whole) ≡ Ok whole
  unfolding read_lists
  stood_reads =
      rw (contents_ok whole k, firsts_ok, entities_built, links_built, rights_built, members_built, lines_built)

-- what a book holds reads from its image
pub write_reads : (l : Lists) → Kept l → read_lists (encode l) ≡ Ok l
write_reads l k =
    let es = drop 3 l.entities in
    let first : l.entities ≡ new_entities ++ es = sym (take-append-drop 3 l.entities) ∙ ap (λ xs. xs ++ es) k.entities.first in
    let same : l ≡ stood es l.links l.rights l.members l.lines = ap (with_entities l) first in
    subst (λ m. read_lists (encode m) ≡ Ok m) (sym same) (stood_reads es l.links l.rights l.members l.lines (subst Kept same k))
