use Rattle.std.proofs.Common.{sym, subst, arith}
use Rattle.catalogue.specs.Sound.{Kept}
use Rattle.catalogue.specs.Calls.{with_rights}
use Rattle.catalogue.proofs.Unique.{kept_out}
use Rattle.catalogue.proofs.Keeping.{right_kept}
use Rattle.book.specs.Meaning.{lists_of}
use Rattle.book.proofs.books.Book.put_right.Goals as goal

pub invariant_of-self : goal.invariant_of-self
invariant_of-self c =
    let b = c.args.self.now in
    let l = lists_of b in
    let k = right_kept l c.args.x (kept_out l b.kept) c.requires in
    record {
      room = (b.room.0, b.room.1, omega (arith, c.place.ensures.capacity), b.room.3, b.room.4);
      kept = ∣ subst (λ xs. Kept (with_rights l xs)) (sym c.place.ensures.items) k ∣₁;
    }
