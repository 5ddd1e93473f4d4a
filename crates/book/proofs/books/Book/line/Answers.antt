use Rattle.std.proofs.Common.{◌≡◌, ℕ, List, Ok, sym, ap, ◌∙◌, subst, arith}
use Rattle.access.specs.declared.entities.Entity.{Entity}
use Rattle.access.specs.declared.code.Line.{Line}
use Rattle.access.specs.declared.numbers.ObjectNumbers.{ObjectNumbers}
use Rattle.catalogue.specs.Sound.{TakesLine, Kept}
use Rattle.catalogue.specs.Calls.{with_lines}
use Rattle.catalogue.specs.Judgements.{judged_line}
use Rattle.catalogue.proofs.Unique.{kept_out}
use Rattle.catalogue.proofs.Judging.{judged_line_lem}
use Rattle.catalogue.proofs.Keeping.{line_kept}
use Rattle.book.specs.Meaning.{lists_of}
use Rattle.book.proofs.books.Book.line.Goals as goal

-- the slice that is judged holds the book's entities
takes : (es seen : List Entity) (o : ObjectNumbers) (r : ℕ) (y : ObjectNumbers) (x : Line) → Ok x ≡ judged_line seen o r y → seen ≡ es → TakesLine es x
takes es seen o r y x j e = judged_line_lem es o r y x (sym (j ∙ ap (λ s. judged_line s o r y) e))

pub invariant_of-self : goal.invariant_of-self
invariant_of-self c =
    let b = c.args.self.now in
    let l = lists_of b in
    let x = c.in_ok-x.x in
    let t = takes l.entities c.deref.result.now c.args.numbers.object c.args.numbers.runner c.args.numbers.called x c.in_ok-x.ensures c.deref.ensures.value in
    let k = line_kept l x (kept_out l b.kept) t in
    record {
      room = (b.room.0, b.room.1, b.room.2, b.room.3, omega (arith, c.place.ensures.capacity));
      kept = ∣ subst (λ xs. Kept (with_lines l xs)) (sym c.place.ensures.items) k ∣₁;
    }
