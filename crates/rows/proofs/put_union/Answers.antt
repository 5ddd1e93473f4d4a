use Rattle.std.proofs.Common.{get_or, arith}
use Rattle.std.proofs.lemmas.Grind.{get_or-set_at}
use Rattle.std.proofs.lemmas.List.{get_or-set_other}
use Rattle.access.proofs.BitLaws.{bit_or_lem}
use Rattle.rows.proofs.put_union.Goals as goal

pub loop-e-preserved : goal.loop-e-preserved
loop-e-preserved c x k h =
    grind (arith, get_or-set_at, get_or-set_other, c.loop-e.invariant x k, bit_or_lem (get_or c.args.first.now x 0) (get_or c.args.second.now x 0) k)
