use Rattle.std.proofs.Common.{sym, ap, ◌∙◌}
use Rattle.std.proofs.lemmas.Bool.{eqb-true}
use Rattle.access.specs.declared.code.Runner.{Runner}
use Rattle.runs.specs.Runs.{worker}
use Rattle.extent.proofs.Planted.{some_bit}
use Rattle.extent.proofs.following.workers.Goals as goal

pub returns-in-Account-clause-only : goal.returns-in-Account-clause-only
returns-in-Account-clause-only c w t =
    let (v, p) = some_bit c.args.entrants c.ranges.entrants.fits c.requires.some in
    (v, p, ap (λ (r : Runner). worker r v) c.in-Account.is ∙ sym (eqb-true _ _ (sym (c.bit_of.ensures w) ∙ t)))
