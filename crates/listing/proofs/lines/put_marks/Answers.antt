use Rattle.std.proofs.Common.{◌≡◌, [], ◌∷◌, true, map, length, sym, ap, ◌∙◌, subst, arith}
use Rattle.std.proofs.lemmas.List.{length-map, map-append}
use Rattle.access.specs.Lists.{fits, is_account}
use Rattle.listing.specs.Puts.{Puts}
use Rattle.listing.specs.Listings.{accounts_below, mark}
use Rattle.listing.proofs.Accounts.{below_fewer, below_yes, below_no}
use Rattle.listing.proofs.Putting.{puts_then, puts_long}
use Rattle.listing.proofs.lines.put_marks.Goals as goal
use Rattle.listing.proofs.lines.put_marks.Goals.{then-is_account, else-is_account}

pub put_mark-at-requires-clause-room : goal.put_mark-at-requires-clause-room
put_mark-at-requires-clause-room c =
    let es = c.args.entities.now in
    let i = c.loop-e.e in
    let t : fits is_account es i ≡ true = sym c.is_account.ensures ∙ c.if-is_account.true in
    omega (arith, below_fewer es i (length es) c.loop-e-test.true t, length-map (accounts_below es i) (mark c.args.row.now), c.loop-e.invariant.place, puts_long c.loop-e.invariant, c.requires.room)

pub loop-e-preserved : goal.loop-e-preserved
loop-e-preserved c =
    let es = c.args.entities.now in
    let i = c.loop-e.e in
    let f = mark c.args.row.now in
    elim c.if-is_account.branch [
      | then-is_account w ↦
          let e = ap (map f) (below_yes es i (sym c.is_account.ensures ∙ w.if-is_account.true)) ∙ map-append f (accounts_below es i) (i ∷ []) in
          subst (λ bytes. Puts c.args.start bytes c.args.room.now c.if-is_account.room c.if-is_account.at) (sym e) (puts_then c.loop-e.invariant (rw (w.at-is, w.room-is) w.put_mark-at.ensures))
      | else-is_account w ↦
          let e = ap (map f) (below_no es i (sym c.is_account.ensures ∙ w.if-is_account.false)) in
          subst (λ bytes. Puts c.args.start bytes c.args.room.now c.if-is_account.room c.if-is_account.at) (sym e) (rw (w.at-is, w.room-is) c.loop-e.invariant)
    ]
