use Rattle.std.proofs.Common.{◌≡◌, ℕ, ◌≤◌, List, length, Ok, sym, ap, ◌∙◌, subst, arith}
use Rattle.access.specs.declared.entities.Entity.{Entity}
use Rattle.access.specs.declared.roles.Link.{Link}
use Rattle.access.specs.Orders.{LinkFits, Linked}
use Rattle.catalogue.specs.Sound.{Kept}
use Rattle.catalogue.specs.Calls.{with_links}
use Rattle.catalogue.specs.Judgements.{judged_link}
use Rattle.catalogue.proofs.Unique.{kept_out}
use Rattle.catalogue.proofs.Judging.{judged_link_lem}
use Rattle.catalogue.proofs.Declaring.{entities_few}
use Rattle.catalogue.proofs.Linking.{link_fits}
use Rattle.catalogue.proofs.Keeping.{link_kept}
use Rattle.book.specs.Meaning.{lists_of}
use Rattle.book.proofs.books.Book.link.Goals as goal

-- the slices that are judged hold the book's entities and links
fits : (es seen : List Entity) (ks had : List Link) (l u : ℕ) (x : Link) → Linked es ks → Ok x ≡ judged_link seen had l u → seen ≡ es → had ≡ ks → LinkFits es ks x
fits es seen ks had l u x h j e f =
    link_fits es ks x h (judged_link_lem es ks l u x (sym (j ∙ ap (λ s. judged_link s had l u) e ∙ ap (λ s. judged_link es s l u) f)))

pub judge_link-requires : goal.judge_link-requires
judge_link-requires c =
    let l = lists_of c.args.self.now in
    let k = kept_out l c.args.self.now.kept in
    record {
      few = subst (λ es. length es ≤ 96) (sym c.deref.ensures.value) (entities_few l.entities k.entities);
      linked = subst (λ es. Linked es c.deref-2.result.now) (sym c.deref.ensures.value) (subst (Linked l.entities) (sym c.deref-2.ensures.value) k.links.linked);
    }

pub invariant_of-self : goal.invariant_of-self
invariant_of-self c =
    record {
      room = c.args.self.now.room;
      kept = c.args.self.now.kept;
    }

pub invariant_of-self-2 : goal.invariant_of-self-2
invariant_of-self-2 c =
    let b = c.args.self.now in
    let l = lists_of b in
    let x = c.in_ok-x.x in
    let old = kept_out l b.kept in
    let f = fits l.entities c.deref.result.now l.links c.deref-2.result.now c.args.link.lower c.args.link.upper x old.links.linked c.in_ok-x.ensures c.deref.ensures.value c.deref-2.ensures.value in
    let k = link_kept l x old f in
    record {
      room = (b.room.0, omega (arith, c.place.ensures.capacity), b.room.2, b.room.3, b.room.4);
      kept = ∣ subst (λ xs. Kept (with_links l xs)) (sym c.place.ensures.items) k ∣₁;
    }
