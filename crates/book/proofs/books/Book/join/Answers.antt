use Rattle.std.proofs.Common.{sym, subst, arith}
use Rattle.catalogue.specs.Sound.{Kept}
use Rattle.catalogue.specs.Calls.{with_members}
use Rattle.catalogue.proofs.Unique.{kept_out}
use Rattle.catalogue.proofs.Judging.{judged_member_lem}
use Rattle.catalogue.proofs.Keeping.{kept_sound, member_kept}
use Rattle.book.specs.Meaning.{lists_of}
use Rattle.book.proofs.books.Book.join.Goals as goal

pub judge_member-requires : goal.judge_member-requires
judge_member-requires c = let l = lists_of c.args.self.now in kept_sound l (kept_out l c.args.self.now.kept)

pub invariant_of-self : goal.invariant_of-self
invariant_of-self c =
    let b = c.args.self.now in
    let l = lists_of b in
    let t = judged_member_lem l.entities c.args.member.account c.args.member.role c.in_ok-x.x (sym c.in_ok-x.ensures) in
    let k = member_kept l c.in_ok-x.x (kept_out l b.kept) t in
    record {
      room = (b.room.0, b.room.1, b.room.2, omega (arith, c.place.ensures.capacity), b.room.4);
      kept = ∣ subst (λ ms. Kept (with_members l ms)) (sym c.place.ensures.items) k ∣₁;
    }
