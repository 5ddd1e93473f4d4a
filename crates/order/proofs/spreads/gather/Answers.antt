use Rattle.std.proofs.Common.{◌||◌, ap, ◌∙◌, rules}
use Rattle.access.specs.Bits.{bit}
use Rattle.order.proofs.SetRows.{told_small}
use Rattle.order.proofs.SpreadLaws.{gathered_none, gather_more, gathered_all}
use Rattle.order.proofs.spreads.gather.Goals as goal

pub loop-y-init : goal.loop-y-init
loop-y-init g c =
    gathered_none _ _ 96 c.args.x _ _ c.empty-all.ensures c.above.result c.args.places (search rules) c.above.ensures c.requires

pub loop-y-preserved : goal.loop-y-preserved
loop-y-preserved g c =
    gather_more _ _ 96 c.args.x _ _ c.loop-y.invariant (told_small c.args.base.now.sets 96 (search rules)) c.in-Some.y _ _
    (λ k. c.union-all.ensures k ∙ ap (λ b. bit c.loop-y.all.bits k || b) (c.at.ensures k)) c.in-Some.ensures.steps

pub returns : goal.returns
returns g c = gathered_all _ _ 96 c.args.x _ _ c.loop-y.invariant c.in-None.ensures.steps.0
