use Rattle.std.proofs.Common.{◌≡◌, ◌+◌, ◌<◌, ◌++◌, length, sym, refl, ap, ◌∙◌, subst, arith}
use Rattle.session.specs.Models.{lists_of}
use Rattle.session.proofs.Readiness.{ready}
use Rattle.listing.specs.Puts.{Puts}
use Rattle.listing.specs.Listings.{accounts_of, accounts_below, Lines, line_of}
use Rattle.listing.proofs.Counting.{sound_sized}
use Rattle.listing.proofs.Accounts.{below_fewer, below_yes, below_no}
use Rattle.listing.proofs.Lining.{lines_more, lines_long, lines_fit}
use Rattle.listing.proofs.Putting.{puts_then, puts_long, puts_to}
use Rattle.listing.proofs.listings.put_lines.Goals as goal
use Rattle.listing.proofs.listings.put_lines.Goals.{then-is_account, else-is_account}

pub put_line-at-requires-clause-sized : goal.put_line-at-requires-clause-sized
put_line-at-requires-clause-sized c = rw c.entities-entities.ensures (sound_sized _ (ready c.args.model.now).sound)

pub put_line-at-requires-clause-account : goal.put_line-at-requires-clause-account
put_line-at-requires-clause-account c =
    omega (arith, c.loop-e-test.true, ap length c.entities-entities.ensures, (sound_sized _ (ready c.args.model.now).sound).1)

pub overflow_cast-e : goal.overflow_cast-e
overflow_cast-e c =
    let e : c.loop-e.e < 96 = omega (arith, c.loop-e-test.true, ap length c.entities-entities.ensures, (sound_sized _ (ready c.args.model.now).sound).1) in
    omega (arith, e)

pub put_line-at-requires-clause-room : goal.put_line-at-requires-clause-room
put_line-at-requires-clause-room c =
    let L = lists_of c.args.model.now in
    let n = length (accounts_of L.entities) in
    let (text, lines, puts) = c.loop-e.invariant in
    let t = rw c.entities-entities.ensures at (sym c.is_account.ensures ∙ c.if-is_account.true) in
    let few = below_fewer L.entities c.loop-e.e (length L.entities) (rw c.entities-entities.ensures at c.loop-e-test.true) t in
    let inside = lines_fit (length (accounts_below L.entities c.loop-e.e)) n (n + 9) few in
    rw c.entities-entities.ensures (omega (arith, inside, lines_long L _ text lines, puts.place, puts_long puts, c.requires.room))

pub loop-e-preserved : goal.loop-e-preserved
loop-e-preserved c =
    let L = lists_of c.args.model.now in
    let e = c.loop-e.e in
    let (text, lines, puts) = c.loop-e.invariant in
    elim c.if-is_account.branch [
      | then-is_account w ↦
          let t = rw c.entities-entities.ensures at (sym c.is_account.ensures ∙ w.if-is_account.true) in
          let row = w.row_of-row.result in
          let written : Puts c.loop-e.at (line_of c.entities-entities.result.now e row) c.loop-e.room c.if-is_account.room c.if-is_account.at = rw (w.at-is, w.room-is) w.put_line-at.ensures in
          let line = line_of L.entities e row in
          let more = lines_more L _ e text line lines (row, w.row_of-row.ensures, refl) in (
            text ++ line,
            subst (λ accounts. Lines L accounts (text ++ line)) (sym (below_yes L.entities e t)) more,
            puts_then puts (subst (λ es. Puts c.loop-e.at (line_of es e row) c.loop-e.room c.if-is_account.room c.if-is_account.at) c.entities-entities.ensures written),
          )
      | else-is_account w ↦
          let t = rw c.entities-entities.ensures at (sym c.is_account.ensures ∙ w.if-is_account.false) in (
            text,
            subst (λ accounts. Lines L accounts text) (sym (below_no L.entities e t)) lines,
            rw (w.at-is, w.room-is) puts,
          )
    ]

pub returns : goal.returns
returns c =
    let L = lists_of c.args.model.now in
    let (text, lines, puts) = c.loop-e.invariant in
    let end : c.loop-e.e ≡ length L.entities = grind (arith, c.entities-entities.ensures) in
    let all = subst (λ i. Lines L (accounts_below L.entities i) text) end lines in
    let long : c.loop-e.at ≡ length text = omega (arith, puts.place) in
    (text, all, puts_to (long ∙ lines_long L _ text all) puts)
