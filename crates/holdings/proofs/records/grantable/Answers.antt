use Rattle.std.proofs.Common.{Bool, sym, ap, ◌&&◌, ◌∙◌, eqb, ltb}
use Rattle.access.proofs.SetLaws.{bit_zero}
use Rattle.holdings.proofs.records.grantable.Goals as goal

pub returns-else-g : goal.returns-else-g
returns-else-g c e = bit_zero e ∙ sym (ap (λ (b : Bool). b && (eqb e c.args.g.now.entity && ltb e 128)) c.if-g.false)
