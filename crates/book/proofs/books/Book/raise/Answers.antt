use Rattle.std.proofs.Common.{vec_items, sym, refl, ap, subst}
use Rattle.std.proofs.lemmas.Option.{slice_get_read, slice_get_past}
use Rattle.catalogue.specs.Sound.{Kept}
use Rattle.catalogue.specs.Calls.{with_rights, raised_at}
use Rattle.catalogue.proofs.Unique.{kept_out}
use Rattle.catalogue.proofs.Keeping.{raised_kept}
use Rattle.book.specs.Meaning.{lists_of}
use Rattle.book.proofs.books.Book.raise.Goals as goal

pub invariant_of-self : goal.invariant_of-self
invariant_of-self c =
    let b = c.args.self.now in
    let l = lists_of b in
    let rs = vec_items b.rights in
    let h = c.in-Some.ensures.item in
    let e = slice_get_read rs _ c.args.n c.in-Some.r.now refl h.3.0 h.1 in
    record {
      room = b.room;
      kept = ∣ subst (λ o. Kept (with_rights l (raised_at rs o c.args.n))) e (raised_kept l c.args.n (kept_out l b.kept)) ∣₁;
    }

pub returns-in-Some : goal.returns-in-Some
returns-in-Some c =
    let l = lists_of c.args.self.now in
    let rs = vec_items c.args.self.now.rights in
    let h = c.in-Some.ensures.item in
    let e = slice_get_read rs _ c.args.n c.in-Some.r.now refl h.3.0 h.1 in
    ap (λ o. with_rights l (raised_at rs o c.args.n)) (sym e)

pub returns-in_default : goal.returns-in_default
returns-in_default c =
    let l = lists_of c.args.self.now in
    let rs = vec_items c.args.self.now.rights in
    ap (λ o. with_rights l (raised_at rs o c.args.n)) (sym (slice_get_past rs c.args.n c.in_default.ensures.item.3))
