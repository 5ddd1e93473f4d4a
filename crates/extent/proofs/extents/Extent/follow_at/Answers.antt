use Rattle.std.proofs.Common.{sym, ◌∙◌}
use Rattle.session.proofs.Readiness.{ready}
use Rattle.holdings.proofs.Calling.{placed_in}
use Rattle.extent.proofs.Idling.{idle_line}
use Rattle.extent.proofs.extents.Extent.follow_at.Goals as goal

pub returns-clause-done : goal.returns-clause-done
returns-clause-done c l e =
    idle_line (ready c.args.model.now).sound c.requires.told c.requires.came l (placed_in _ c.args.i l e) c.in-Some.call
    (λ y a. c.requires.told.calls c.args.i l c.in-Some.call y e (sym c.call.ensures ∙ c.in-Some.is) a) (c.is_idle.ensures c.if-is_idle.true)

pub follow-requires-clause-listed : goal.follow-requires-clause-listed
follow-requires-clause-listed c = placed_in _ c.args.i c.in-Some-line_at.line (sym c.line_at.ensures ∙ c.in-Some-line_at.is)
