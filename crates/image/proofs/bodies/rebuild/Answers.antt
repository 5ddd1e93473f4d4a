use Rattle.std.proofs.Common.{sym, ap, ◌∙◌}
use Rattle.std.proofs.lemmas.Result.{err_from_is_err_and}
use Rattle.book.specs.Meaning.{lists_of}
use Rattle.image.specs.Layout.{in_order}
use Rattle.image.specs.Reading.{built_parts}
use Rattle.image.proofs.Stepping.{read_contents, read_firsts, read_rest}
use Rattle.image.proofs.bodies.rebuild.Goals as goal

pub returns-in_err-contents : goal.returns-in_err-contents
returns-in_err-contents c =
    let p = err_from_is_err_and c.from_residual.result c.from_residual.ensures.1 in
    rw (p.1, p.2) (read_contents c.args.bytes.now _ (sym c.in_err-contents.ensures))

pub returns-in_err-check_firsts : goal.returns-in_err-check_firsts
returns-in_err-check_firsts c =
    let p = err_from_is_err_and c.from_residual-in_err-check_firsts.result c.from_residual-in_err-check_firsts.ensures.1 in
    rw (p.1, p.2) (read_firsts c.args.bytes.now _ _ (sym c.in_ok-contents.ensures.1) c.in_err-check_firsts.ensures)

pub returns : goal.returns
returns c =
    c.read_bodies.ensures
    ∙ ap (λ b. built_parts b in_order (lists_of c.clear.new.self)) c.in_ok-contents.ensures.0
    ∙ ap (built_parts c.args.bytes.now in_order) c.clear.ensures
    ∙ read_rest c.args.bytes.now _ _ (sym c.in_ok-contents.ensures.1) c.in_ok-check_firsts.ensures
