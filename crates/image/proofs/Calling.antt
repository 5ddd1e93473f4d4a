-- The building call that a record is: what it makes of bytes that it takes as new, and that it takes each record of a book.
use Rattle.std.proofs.Common.{◌≡◌, ℕ, suc, ◌<◌, ◌≤◌, Bool, true, false, cond, not, ◌&&◌, ◌||◌, eqb, List, [], ◌∷◌, ◌++◌, length, is_some, Some, None, Ok, Err, Option, Result, unwrap_or, sym, refl, ap, ◌∙◌, arith}
use Rattle.std.proofs.lemmas.Bool.{not-false, and_parts, and_from, or_from}
use Rattle.access.specs.declared.entities.Kind.{Kind}
use Rattle.access.specs.declared.entities.Mode.{Mode}
use Rattle.access.specs.declared.entities.Mode.TheVariants.{Creator}
use Rattle.access.specs.declared.entities.Entity.{Entity}
use Rattle.access.specs.declared.rights.Right.TheVariants.{Select}
use Rattle.access.specs.declared.rights.RightRecord.{RightRecord}
use Rattle.access.specs.declared.roles.Link.{Link}
use Rattle.access.specs.declared.roles.Member.{Member}
use Rattle.access.specs.declared.code.Object.{Object}
use Rattle.access.specs.declared.code.Object.TheVariants as object
use Rattle.access.specs.declared.numbers.ObjectNumbers.{ObjectNumbers}
use Rattle.access.specs.declared.code.Runner.{Runner}
use Rattle.access.specs.declared.code.Runner.TheVariants as runner
use Rattle.access.specs.declared.code.Action.{Action}
use Rattle.access.specs.declared.code.Action.TheVariants as action
use Rattle.access.specs.declared.code.Line.{Line}
use Rattle.access.specs.declared.refusals.Refusal.TheVariants.{Circular}
use Rattle.access.specs.Codes.{Code, code}
use Rattle.access.specs.Lists.{Lists, stands, fits, is_role, is_principal, is_account, is_procedure, is_table}
use Rattle.access.specs.Numbers.{kind_at, kind_number, mode_at, mode_number, right_at, right_number, option_at, object_at, runner_at, runner_number}
use Rattle.access.specs.Orders.{role_below}
use Rattle.access.specs.Places.{place_of}
use Rattle.catalogue.specs.Alike.{same_link, same_right, same_member, same_line}
use Rattle.catalogue.specs.Tables.{position}
use Rattle.catalogue.specs.Judgements.{judged_kind, judged_entity, entity_reasons, entity_named, mode_for, own_number, judged_link, link_reasons, link_named, judged_right, right_reasons, right_named, judged_member, member_reasons, member_named, judged_line, judged_objects, line_reasons, line_named, object_fits, runner_fits, runner_stands}
use Rattle.catalogue.specs.Calls.{Outcome, unless, with_entities, with_links, with_rights, with_members, with_lines, placed_link, placed_right, placed_member, placed_line, raised}
use Rattle.catalogue.specs.Sound.{TakesEntity, TakesRight, TakesMember, TakesLine}
use Rattle.catalogue.proofs.Judging.{judged_ok}
use Rattle.catalogue.proofs.Declaring.{taken_ok}
use Rattle.book.specs.Gathered.{called}
use Rattle.image.specs.Bytes.{option_number, entity_bytes, link_bytes, right_bytes, member_bytes, line_bytes, numbers_of, called_by}
use Rattle.image.specs.Reading.{byte, is_new, call_of, numbers_at}
use Rattle.catalogue.specs.declared.names.ListName.TheVariants.{Entities, Links, Rights, Members, Lines}
use Rattle.image.proofs.CodeLaws.{kind_back, mode_back, right_back, option_back, some_of, runner_back, object_back}
use Rattle.image.specs.Decoded.{kind_there, mode_there, right_there, option_there, runner_there, fits_stands, object_there}
use Rattle.image.proofs.Pushing.{placed_new, placed_last, pushed, raised_last}

-- bytes by their places

pub two : (b : List ℕ) → length b ≡ 2 → byte b 0 ∷ byte b 1 ∷ [] ≡ b
two [] h = let no : ⊥ = omega arith in absurd no
two (x ∷ []) h = let no : ⊥ = omega arith in absurd no
two (x ∷ y ∷ []) h = refl
two (x ∷ y ∷ z ∷ b) h = let no : ⊥ = omega arith in absurd no

pub more : (x : ℕ) (b : List ℕ) (n : ℕ) → length (x ∷ b) ≡ suc n → length b ≡ n
more x b n h = omega arith

pub four : (b : List ℕ) → length b ≡ 4 → byte b 0 ∷ byte b 1 ∷ byte b 2 ∷ byte b 3 ∷ [] ≡ b
four [] h = let no : ⊥ = omega arith in absurd no
four (x ∷ []) h = let no : ⊥ = omega arith in absurd no
four (x ∷ y ∷ b) h = ap (λ c. x ∷ y ∷ c) (two b (omega arith))

pub seven : (b : List ℕ) → length b ≡ 7 → byte b 0 ∷ byte b 1 ∷ byte b 2 ∷ byte b 3 ∷ byte b 4 ∷ byte b 5 ∷ byte b 6 ∷ [] ≡ b
seven [] h = let no : ⊥ = omega arith in absurd no
seven (x ∷ []) h = let no : ⊥ = omega arith in absurd no
seven (x ∷ y ∷ []) h = let no : ⊥ = omega arith in absurd no
seven (x ∷ y ∷ z ∷ b) h = ap (λ c. x ∷ y ∷ z ∷ c) (four b (omega arith))

-- a record that was made of bytes as new
pub record Made {X : Type 0} (bytes : X → List ℕ) (put : X → Lists) (b : List ℕ) (after : Lists) : Type 0 where
  pub item : X
  pub coded : bytes item ≡ b
  pub lists : after ≡ put item

-- what a call that returned the next number took
new_ok : {X : Type 0} (bytes : X → List ℕ) (put : X → Lists) (b : List ℕ) (k : ℕ) (l : Lists) (f : X → Outcome) (j : Result X Code)
    → ((x : X) → j ≡ Ok x → bytes x ≡ b) → ((x : X) → is_new (f x).answer k ≡ true → (f x).lists ≡ put x)
    → is_new (unless l f j).answer k ≡ true → Made bytes put b (unless l f j).lists
new_ok bytes put b k l f (Err c) code push new = absurd cc
new_ok bytes put b k l f (Ok x) code push new = record { item = x; coded = code x refl; lists = push x new }

-- Entities

mode_some : (k : Kind) (o : Option Mode) → mode_for k o ≡ true → o ≡ Some (unwrap_or o Creator)
mode_some k None e = absurd cc
mode_some k (Some m) e = refl

entity_code : (es : List Entity) (n p o m : ℕ) (x : Entity) → judged_entity es n p o m ≡ Ok x → entity_bytes x ≡ n ∷ p ∷ o ∷ m ∷ []
entity_code es n p o m x j = go (kind_at n) refl j
  where
    go : (a : Option Kind) → kind_at n ≡ a → judged_kind es p o (mode_at m) a ≡ Ok x → entity_bytes x ≡ n ∷ p ∷ o ∷ m ∷ []
    go None ek e = absurd cc
    go (Some k) ek e =
        let ok = judged_ok (entity_reasons es p o (mode_at m) k) (entity_named p o (mode_at m) k) x e in
        let listed = and_parts (mode_for k (mode_at m)) (stands es p && (stands es o || own_number es o k)) (not-false _ ok.0.0) in
        let mn = mode_back m (unwrap_or (mode_at m) Creator) (mode_some k (mode_at m) listed.0) in
        ap entity_bytes (sym ok.1) ∙ ap (λ i. i ∷ p ∷ o ∷ mode_number (unwrap_or (mode_at m) Creator) ∷ []) (kind_back n k ek) ∙ ap (λ i. n ∷ p ∷ o ∷ i ∷ []) mn

pub entity_made : (l : Lists) (b : List ℕ) → length b ≡ 4 → is_new (called l (call_of Entities b)).answer (length l.entities) ≡ true
    → Made entity_bytes (λ x. with_entities l (l.entities ++ x ∷ [])) b (called l (call_of Entities b)).lists
entity_made l b w new =
    new_ok entity_bytes _ b (length l.entities) l _ (judged_entity l.entities (byte b 0) (byte b 1) (byte b 2) (byte b 3))
    (λ x j. entity_code l.entities (byte b 0) (byte b 1) (byte b 2) (byte b 3) x j ∙ four b w) (λ x h. refl) new

pub entity_taken : (l : Lists) (x : Entity) → TakesEntity l.entities x
    → called l (call_of Entities (entity_bytes x)) ≡ record { answer = Ok (length l.entities); lists = with_entities l (l.entities ++ x ∷ []) }
entity_taken l x t =
    let es = l.entities in
    let (y, e) = taken_ok (judged_kind es x.parent x.owner (Some x.mode) (Some x.kind)) t in
    let same : x ≡ y = (judged_ok (entity_reasons es x.parent x.owner (Some x.mode) x.kind) (entity_named x.parent x.owner (Some x.mode) x.kind) y e).1 in
    let j : judged_entity es (kind_number x.kind) x.parent x.owner (mode_number x.mode) ≡ Ok x =
    rw (mode_there x.mode, kind_there x.kind) (e ∙ ap Ok (sym same)) in
    ap (unless l (λ y. record { answer = Ok (length es); lists = with_entities l (es ++ y ∷ []) })) j

-- rows of which none applies
one_row : {Y : Type 0} (a : Bool) (p : Code) (rest : Result Y Code) → a ≡ true → cond (not a) (Err p) rest ≡ rest
one_row a p rest e = ap (λ t. cond (not t) (Err p) rest) e

-- Links

link_code : (es : List Entity) (ks : List Link) (l u : ℕ) (x : Link) → judged_link es ks l u ≡ Ok x → link_bytes x ≡ l ∷ u ∷ []
link_code es ks l u x j = ap link_bytes (sym (judged_ok (link_reasons es ks l u) (link_named l u) x j).1)

pub link_made : (l : Lists) (b : List ℕ) → length b ≡ 2 → is_new (called l (call_of Links b)).answer (length l.links) ≡ true
    → Made link_bytes (λ x. with_links l (l.links ++ x ∷ [])) b (called l (call_of Links b)).lists
link_made l b w new =
    new_ok link_bytes _ b (length l.links) l _ (judged_link l.entities l.links (byte b 0) (byte b 1))
    (λ x j. link_code l.entities l.links (byte b 0) (byte b 1) x j ∙ two b w)
    (λ x h. ap (λ t. with_links l t.1) (placed_new same_link 64 l.links x h)) new

-- a link that may come next: of two roles, and the test finds no circle
pub record LinkNext (es : List Entity) (ks : List Link) (x : Link) : Type 0 where
  pub lower : fits is_role es x.lower ≡ true
  pub upper : fits is_role es x.upper ≡ true
  pub apart : eqb x.lower x.upper ≡ false
  pub free : role_below es ks x.upper x.lower ≡ false

pub link_taken : (l : Lists) (x : Link) → LinkNext l.entities l.links x → position (λ y. same_link y x) l.links ≡ None → length l.links < 64
    → called l (call_of Links (link_bytes x)) ≡ record { answer = Ok (length l.links); lists = with_links l (l.links ++ x ∷ []) }
link_taken l x t fresh room =
    let es = l.entities in
    let standing = and_from _ _ (fits_stands is_role es x.lower t.lower) (fits_stands is_role es x.upper t.upper) in
    let circle : (eqb x.lower x.upper || role_below es l.links x.upper x.lower) ≡ false = or_from _ _ t.apart t.free in
    let j : judged_link es l.links x.lower x.upper ≡ Ok x =
    one_row (stands es x.lower && stands es x.upper) _ _ standing
    ∙ one_row (fits is_role es x.lower && fits is_role es x.upper) _ _ (and_from _ _ t.lower t.upper)
    ∙ ap (λ c. cond c (Err (code Circular)) (Ok x)) circle in
    ap (unless l (λ y. record { answer = (placed_link l y).0; lists = with_links l (placed_link l y).1 })) j
    ∙ ap (λ s. record { answer = s.0; lists = with_links l s.1 }) (placed_last same_link 64 l.links x fresh room)

-- Right records

right_code : (es : List Entity) (p e a o : ℕ) (x : RightRecord) → judged_right es p e a o ≡ Ok x → right_bytes x ≡ p ∷ e ∷ a ∷ o ∷ []
right_code es p e a o x j =
    let ok = judged_ok (right_reasons es p e a o) (right_named p e a o) x j in
    let one = and_parts (is_some (right_at a)) (is_some (option_at o) && (stands es p && stands es e)) (not-false _ ok.0.0) in
    let next = and_parts (is_some (option_at o)) (stands es p && stands es e) one.1 in
    let an = right_back a (unwrap_or (right_at a) Select) (some_of (right_at a) Select one.0) in
    let on = option_back o (unwrap_or (option_at o) false) (some_of (option_at o) false next.0) in
    ap right_bytes (sym ok.1) ∙ ap (λ i. p ∷ e ∷ i ∷ option_number (unwrap_or (option_at o) false) ∷ []) an ∙ ap (λ i. p ∷ e ∷ a ∷ i ∷ []) on

right_put : (l : Lists) (x : RightRecord) (t : Result ℕ Code × List RightRecord) → t ≡ pushed l.rights x
    → with_rights l (raised x.option t.0 t.1) ≡ with_rights l (l.rights ++ x ∷ [])
right_put l x t e =
    ap (λ s. with_rights l (raised x.option s.0 s.1)) e ∙ ap (with_rights l) (raised_last x.option l.rights x refl)

pub right_made : (l : Lists) (b : List ℕ) → length b ≡ 4 → is_new (called l (call_of Rights b)).answer (length l.rights) ≡ true
    → Made right_bytes (λ x. with_rights l (l.rights ++ x ∷ [])) b (called l (call_of Rights b)).lists
right_made l b w new =
    new_ok right_bytes _ b (length l.rights) l _ (judged_right l.entities (byte b 0) (byte b 1) (byte b 2) (byte b 3))
    (λ x j. right_code l.entities (byte b 0) (byte b 1) (byte b 2) (byte b 3) x j ∙ four b w)
    (λ x h. right_put l x (placed_right l x) (placed_new same_right 256 l.rights x h)) new

pub right_taken : (l : Lists) (x : RightRecord) → TakesRight l.entities x → position (λ y. same_right y x) l.rights ≡ None → length l.rights < 256
    → called l (call_of Rights (right_bytes x)) ≡ record { answer = Ok (length l.rights); lists = with_rights l (l.rights ++ x ∷ []) }
right_taken l x t fresh room =
    let es = l.entities in
    let a = right_number x.right in
    let o = option_number x.option in
    let listed : (is_some (right_at a) && (is_some (option_at o) && (stands es x.principal && stands es x.entity))) ≡ true =
    and_from _ _ (ap is_some (right_there x.right))
    (and_from _ _ (ap is_some (option_there x.option)) (and_from _ _ (fits_stands is_principal es x.principal t.0) t.1)) in
    let named : right_named x.principal x.entity a o ≡ x = rw (right_there x.right, option_there x.option) in
    let j : judged_right es x.principal x.entity a o ≡ Ok x =
    one_row (is_some (right_at a) && (is_some (option_at o) && (stands es x.principal && stands es x.entity))) _ _ listed
    ∙ one_row (fits is_principal es x.principal) _ _ t.0
    ∙ ap Ok named in
    let place = placed_last same_right 256 l.rights x fresh room in
    ap (unless l (λ y. record { answer = (placed_right l y).0; lists = with_rights l (raised y.option (placed_right l y).0 (placed_right l y).1) })) j
    ∙ ap (λ n. record { answer = n; lists = with_rights l (raised x.option (placed_right l x).0 (placed_right l x).1) }) (ap (λ s. s.0) place)
    ∙ ap (λ m. record { answer = Ok (length l.rights); lists = m }) (right_put l x (placed_right l x) place)

-- Member records

member_code : (es : List Entity) (a r : ℕ) (x : Member) → judged_member es a r ≡ Ok x → member_bytes x ≡ a ∷ r ∷ []
member_code es a r x j = ap member_bytes (sym (judged_ok (member_reasons es a r) (member_named a r) x j).1)

pub member_made : (l : Lists) (b : List ℕ) → length b ≡ 2 → is_new (called l (call_of Members b)).answer (length l.members) ≡ true
    → Made member_bytes (λ x. with_members l (l.members ++ x ∷ [])) b (called l (call_of Members b)).lists
member_made l b w new =
    new_ok member_bytes _ b (length l.members) l _ (judged_member l.entities (byte b 0) (byte b 1))
    (λ x j. member_code l.entities (byte b 0) (byte b 1) x j ∙ two b w)
    (λ x h. ap (λ t. with_members l t.1) (placed_new same_member 128 l.members x h)) new

pub member_taken : (l : Lists) (x : Member) → TakesMember l.entities x → position (λ y. same_member y x) l.members ≡ None → length l.members < 128
    → called l (call_of Members (member_bytes x)) ≡ record { answer = Ok (length l.members); lists = with_members l (l.members ++ x ∷ []) }
member_taken l x t fresh room =
    let es = l.entities in
    let standing = and_from _ _ (fits_stands is_account es x.account t.0) (fits_stands is_role es x.role t.1) in
    let j : judged_member es x.account x.role ≡ Ok x =
    one_row (stands es x.account && stands es x.role) _ _ standing
    ∙ one_row (fits is_account es x.account && fits is_role es x.role) _ _ (and_from _ _ t.0 t.1) in
    ap (unless l (λ y. record { answer = (placed_member l y).0; lists = with_members l (placed_member l y).1 })) j
    ∙ ap (λ s. record { answer = s.0; lists = with_members l s.1 }) (placed_last same_member 128 l.members x fresh room)

-- Lines

line_code : (es : List Entity) (m : ObjectNumbers) (r : ℕ) (n : ObjectNumbers) (c : Line) → judged_line es m r n ≡ Ok c
    → line_bytes c ≡ m.kind ∷ m.entity ∷ m.right ∷ r ∷ n.kind ∷ n.entity ∷ n.right ∷ []
line_code es m r n c j = go (object_at m) (object_at n) refl refl j
  where
    go : (a b : Option Object) → object_at m ≡ a → object_at n ≡ b → judged_objects es a (runner_at r) b ≡ Ok c
        → line_bytes c ≡ m.kind ∷ m.entity ∷ m.right ∷ r ∷ n.kind ∷ n.entity ∷ n.right ∷ []
    go None b ea eb e = absurd cc
    go (Some x) None ea eb e = absurd cc
    go (Some x) (Some y) ea eb e =
        let named = (judged_ok (line_reasons es x (runner_at r) y) (line_named x (runner_at r) y) c e).1 in
        ap line_bytes (sym named)
        ∙ ap (λ q. q.kind ∷ q.entity ∷ q.right ∷ runner_number (runner_at r) ∷ (numbers_of y).kind ∷ (numbers_of y).entity ∷ (numbers_of y).right ∷ []) (object_back m x ea)
        ∙ ap (λ q. m.kind ∷ m.entity ∷ m.right ∷ q ∷ (numbers_of y).kind ∷ (numbers_of y).entity ∷ (numbers_of y).right ∷ []) (runner_back r)
        ∙ ap (λ q. m.kind ∷ m.entity ∷ m.right ∷ r ∷ q.kind ∷ q.entity ∷ q.right ∷ []) (object_back n y eb)

pub line_made : (l : Lists) (b : List ℕ) → length b ≡ 7 → is_new (called l (call_of Lines b)).answer (length l.lines) ≡ true
    → Made line_bytes (λ x. with_lines l (l.lines ++ x ∷ [])) b (called l (call_of Lines b)).lists
line_made l b w new =
    new_ok line_bytes _ b (length l.lines) l _ (judged_line l.entities (numbers_at b 0) (byte b 3) (numbers_at b 4))
    (λ x j. line_code l.entities (numbers_at b 0) (byte b 3) (numbers_at b 4) x j ∙ seven b w)
    (λ x h. ap (λ t. with_lines l t.1) (placed_new same_line 256 l.lines x h)) new

object_stands : (es : List Entity) (x : Object) → object_fits es x ≡ true → stands es (place_of x) ≡ true
object_stands es (object.Procedure e) h = fits_stands is_procedure es e h
object_stands es (object.Triggers e v) h = fits_stands is_table es e h
object_stands es (object.Created e) h = absurd cc

runner_stands_lem : (es : List Entity) (r : Runner) → runner_fits es r ≡ true → runner_stands es r ≡ true
runner_stands_lem es runner.Caller h = refl
runner_stands_lem es (runner.Account n) h = fits_stands is_account es n h

-- the line that fits calls an object
line_judged : (es : List Entity) (x : Object) (r : Runner) (y : Object) → length es ≤ 96 → object_fits es x ≡ true → runner_fits es r ≡ true → object_fits es y ≡ true
    → judged_line es (numbers_of x) (runner_number r) (numbers_of y) ≡ Ok (line_named x r y)
line_judged es x r y few fx fr fy =
    let standing = and_from _ _ (object_stands es x fx) (and_from _ _ (runner_stands_lem es r fr) (object_stands es y fy)) in
    rw (object_there es x fx, runner_there es r few fr, object_there es y fy)
    (one_row (stands es (place_of x) && (runner_stands es r && stands es (place_of y))) _ _ standing
    ∙ one_row (object_fits es x && (runner_fits es r && object_fits es y)) _ _ (and_from _ _ fx (and_from _ _ fr fy)))

line_named_lem : (es : List Entity) (a : Action) (x : Object) (r : Runner) → length es ≤ 96 → TakesLine es (record { object = x; runner = r; action = a })
    → judged_line es (numbers_of x) (runner_number r) (numbers_of (called_by a)) ≡ Ok (record { object = x; runner = r; action = a })
line_named_lem es (action.Call y) x r few t = line_judged es x r y few t.0 t.1 t.2
line_named_lem es (action.Grant g) x r few t = absurd cc
line_named_lem es (action.Join m) x r few t = absurd cc

pub line_taken : (l : Lists) (x : Line) → length l.entities ≤ 96 → TakesLine l.entities x → position (λ y. same_line y x) l.lines ≡ None → length l.lines < 256
    → called l (call_of Lines (line_bytes x)) ≡ record { answer = Ok (length l.lines); lists = with_lines l (l.lines ++ x ∷ []) }
line_taken l x few t fresh room =
    let j = line_named_lem l.entities x.action x.object x.runner few t in
    ap (unless l (λ y. record { answer = (placed_line l y).0; lists = with_lines l (placed_line l y).1 })) j
    ∙ ap (λ s. record { answer = s.0; lists = with_lines l s.1 }) (placed_last same_line 256 l.lines x fresh room)
