use Rattle.std.proofs.Common.{ℕ, ap, ◌∙◌, ◌&&◌, ltb, arith}
use Rattle.std.specs.List.{slice_get}
use Rattle.std.proofs.lemmas.Option.{slice_get-get_or, slice_get_past}
use Rattle.holdings.specs.Giving.{owner_is}
use Rattle.holdings.proofs.Marking.{owner_more, all_marked}
use Rattle.holdings.proofs.kinds.owned.Goals as goal

pub loop-x-preserved : goal.loop-x-preserved
loop-x-preserved c o e =
    let es = c.args.entities.now in
    let x = c.loop-x.x in
    owner_more e x o _ (owner_is o (slice_get es e)) _ _ _ (c.loop-x.invariant o e)
    (c.add.ensures o e) (c.bit_of.ensures e)
    (λ q. ap (λ (n : ℕ). owner_is o (slice_get es n)) q ∙ ap (owner_is o) (slice_get-get_or es x _ c.loop-x-test.true))

pub returns : goal.returns
returns c o e =
    all_marked e _ _ _ (c.loop-x.invariant o e) (λ h. ap (λ t. owner_is o t && ltb o 96) (slice_get_past c.args.entities.now e (omega arith)))
