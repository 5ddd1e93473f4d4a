use Rattle.std.proofs.Common.{◌∙◌, arith}
use Rattle.std.proofs.lemmas.Result.{err_from_is_err_and}
use Rattle.catalogue.specs.declared.names.ListName.TheVariants.{Entities}
use Rattle.book.specs.Meaning.{lists_of}
use Rattle.image.specs.Layout.{in_order}
use Rattle.image.specs.Reading.{built_part}
use Rattle.image.proofs.Stepping.{steps_on, steps_off}
use Rattle.image.proofs.bodies.read_bodies.Goals as goal

pub returns-in_err-read_body : goal.returns-in_err-read_body
returns-in_err-read_body c =
    let p = err_from_is_err_and c.from_residual.result c.from_residual.ensures.1 in
    rw (p.1, p.2) (steps_off (built_part c.args.contents.now.bytes.now) in_order c.loop-list.list-index Entities (lists_of c.loop-list.book) _ (omega arith) c.in_err-read_body.ensures ∙ c.loop-list.invariant)

pub loop-list-preserved : goal.loop-list-preserved
loop-list-preserved c =
    steps_on (built_part c.args.contents.now.bytes.now) in_order c.loop-list.list-index Entities (lists_of c.loop-list.book) (lists_of c.read_body.new.book) (omega arith) c.in_ok-read_body.ensures
    ∙ c.loop-list.invariant
