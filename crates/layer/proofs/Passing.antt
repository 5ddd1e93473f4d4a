-- A building call that is passed down to a book keeps the layer's meaning sound: the entities at most grow, and the book stays within its limits.
use Rattle.std.proofs.Common.{◌≡◌, ◌+◌, ◌≤◌, ◌⊎◌, List, [], ◌∷◌, ◌++◌, length, Some, None, Ok, Err, vec_items, Option, Result, sym, refl, subst, inl, inr, arith, length-append}
use Rattle.std.specs.List.{AllByRecursion}
use Rattle.std.proofs.ByRecursion.{All-append, All-weaker}
use Rattle.access.specs.declared.entities.Entity.{Entity}
use Rattle.access.specs.Codes.{Code}
use Rattle.access.specs.Lists.{Lists}
use Rattle.catalogue.specs.Judgements.{judged_entity, judged_link, judged_right, judged_member, judged_line}
use Rattle.catalogue.specs.Calls.{Outcome, unless}
use Rattle.catalogue.specs.Sound.{TakesRight, TakesMember, Listed, Sound, Kept}
use Rattle.catalogue.proofs.Keeping.{kept_sound}
use Rattle.catalogue.proofs.Unique.{kept_out}
use Rattle.catalogue.proofs.Standing.{right_stays, member_stays}
use Rattle.book.specs.declared.calls.Call.{Call}
use Rattle.book.specs.declared.calls.Call.TheVariants as call
use Rattle.book.specs.Gathered.{called}
use Rattle.book.specs.declared.books.Book.{Book}
use Rattle.book.specs.contracts.books.reading.BookCatalogue.TheImpl as book_catalogue
use Rattle.book.specs.Meaning.{lists_of}
use Rattle.std.specs.List.{filter_map, cons_option}
use Rattle.layer.specs.declared.layers.Layer.{Layer}
use Rattle.layer.specs.declared.proposals.Proposal.{Proposal}
use Rattle.layer.specs.Proposals.{right_in, member_in, rights_of, members_of, over}
use Rattle.layer.specs.Stands.{stand_of, meant}
use Rattle.layer.proofs.Over.{all_back}
use Rattle.layer.proofs.Stays.{sound_with}

none_few : {X : Type 0} (o : Option X) (xs : List X) → length (cons_option o xs) ≤ length xs + 1
none_few None xs = omega arith
none_few (Some x) xs = omega arith

picked_few : {A X : Type 0} (f : A → Option X) (ps : List A) → length (filter_map f ps) ≤ length ps
picked_few f [] = omega arith
picked_few f (p ∷ ps) = omega (arith, none_few (f p) (filter_map f ps), picked_few f ps)

-- the same entities, or one more
abbrev pub Grown : List Entity → List Entity → Type 0
Grown es fs = (fs ≡ es) ⊎ ((x : Entity) × (fs ≡ es ++ x ∷ []))

unless_grown : {X : Type 0} (l : Lists) (put : X → Outcome) (j : Result X Code) → ((x : X) → Grown l.entities (put x).lists.entities)
    → Grown l.entities (unless l put j).lists.entities
unless_grown l put (Err c) h = inl refl
unless_grown l put (Ok x) h = h x

pub called_grown : (l : Lists) (c : Call) → Grown l.entities (called l c).lists.entities
called_grown l (call.Declare x) = unless_grown l _ (judged_entity l.entities x.kind x.parent x.owner x.mode) (λ y. inr (y, refl))
called_grown l (call.Link x) = unless_grown l _ (judged_link l.entities l.links x.lower x.upper) (λ y. inl refl)
called_grown l (call.Grant x) = unless_grown l _ (judged_right l.entities x.principal x.entity x.right x.option) (λ y. inl refl)
called_grown l (call.Join x) = unless_grown l _ (judged_member l.entities x.account x.role) (λ y. inl refl)
called_grown l (call.Line x) = unless_grown l _ (judged_line l.entities x.object x.runner x.called) (λ y. inl refl)

-- what a book with these entities takes, one with one more takes
grown_fit : {X : Type 0} (takes : List Entity → X → Type 0) → ((es : List Entity) (e : Entity) (x : X) → takes es x → takes (es ++ e ∷ []) x)
    → (es fs : List Entity) (xs : List X) → Grown es fs → AllByRecursion (takes es) xs → AllByRecursion (takes fs) xs
grown_fit takes stays es fs xs (inl e) h = subst (λ gs. AllByRecursion (takes gs) xs) (sym e) h
grown_fit takes stays es fs xs (inr (x, e)) h = subst (λ gs. AllByRecursion (takes gs) xs) (sym e) (All-weaker (takes es) (takes (es ++ x ∷ [])) (stays es x) xs h)

-- a list of a book, and few proposals after it
listed_over : {X : Type 0} (takes : X → Type 0) (xs ys : List X) → AllByRecursion takes xs → AllByRecursion takes ys → length xs ≤ 256 → length ys ≤ 16 → Listed takes (xs ++ ys)
listed_over takes xs ys h k few more = record { fit = All-append takes xs ys h k; few = omega (arith, length-append xs ys) }

pub passed_sound : (l m : Lists) (ps : List Proposal) → length ps ≤ 16 → Kept m → Grown l.entities m.entities → Sound (over l ps) → Sound (over m ps)
passed_sound l m ps few k g s =
    let rights = all_back (TakesRight l.entities) l.rights (rights_of ps) s.rights.fit in
    let members = all_back (TakesMember l.entities) l.members (members_of ps) s.members.fit in
    sound_with m ps (kept_sound m k)
    (listed_over (TakesRight m.entities) m.rights (rights_of ps) k.rights.fit (grown_fit TakesRight right_stays l.entities m.entities (rights_of ps) g rights) k.rights.few (omega (arith, picked_few right_in ps)))
    (listed_over (TakesMember m.entities) m.members (members_of ps) k.members.fit (grown_fit TakesMember member_stays l.entities m.entities (members_of ps) g members) (omega (arith, k.members.few)) (omega (arith, picked_few member_in ps)))

few_proposals : (y : Layer Book book_catalogue.ghosts) → length (vec_items y.proposals) ≤ 16
few_proposals y = omega (arith, y.few, y.proposals.ok.0)

-- a layer whose book is the one after a call
pub built_sound : (y : Layer Book book_catalogue.ghosts) (b : Book) (c : Call) → lists_of b ≡ (called (lists_of y.below) c).lists → Sound (meant (stand_of y))
    → Sound (over (lists_of b) (vec_items y.proposals))
built_sound y b c e s =
    let l = lists_of y.below in
    passed_sound l (lists_of b) (vec_items y.proposals) (few_proposals y) (kept_out (lists_of b) b.kept)
    (subst (λ m. Grown l.entities m.entities) (sym e) (called_grown l c)) s
