use Rattle.std.proofs.Common.{◌∙◌, arith}
use Rattle.std.proofs.lemmas.Result.{err_from_is_err_and}
use Rattle.catalogue.specs.declared.names.ListName.TheVariants.{Entities}
use Rattle.image.specs.Layout.{in_order}
use Rattle.image.specs.Reading.{entry_end}
use Rattle.image.proofs.Stepping.{steps_on, steps_off, contents_off}
use Rattle.image.proofs.contents.contents_end.Goals as goal

pub returns-in_err-end : goal.returns-in_err-end
returns-in_err-end c =
    let p = err_from_is_err_and c.from_residual.result c.from_residual.ensures.1 in
    rw (p.1, p.2) (contents_off c.args.bytes.now (omega arith) _
    (steps_off (entry_end c.args.bytes.now) in_order c.loop-list.list-index Entities c.loop-list.end _ (omega arith) c.in_err-end.ensures ∙ c.loop-list.invariant))

pub loop-list-preserved : goal.loop-list-preserved
loop-list-preserved c =
    steps_on (entry_end c.args.bytes.now) in_order c.loop-list.list-index Entities c.loop-list.end _ (omega arith) c.in_ok-end.ensures ∙ c.loop-list.invariant
