use Rattle.std.proofs.Common.{◌≡◌, get_or, ap, ◌∙◌, rules}
use Rattle.access.specs.Bits.{bit}
use Rattle.access.specs.declared.sets.RightSet.{RightSet}
use Rattle.order.proofs.SetRows.{told_read}
use Rattle.order.proofs.rows.Row.at.Goals as goal

pub returns : goal.returns
returns c k =
    let sets = c.args.self.now.sets in
    let read : c.unwrap_or.result ≡ get_or sets c.args.x c.empty.result = search rules in
    ap (λ (s : RightSet). bit s.bits k) read ∙ told_read sets c.args.x k c.empty.result (c.empty.ensures k)
