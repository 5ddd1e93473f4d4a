use Rattle.std.proofs.Common.{◌≡◌, length, ap, arith}
use Rattle.session.specs.Models.{lists_of}
use Rattle.session.proofs.Readiness.{ready}
use Rattle.holdings.specs.Rows.{has, can}
use Rattle.holdings.proofs.Inside.{few_entities}
use Rattle.holdings.proofs.Lending.{lent_none, lent_more, lent_all}
use Rattle.holdings.proofs.carried.of_roles.Goals as goal

pub loop-x-init : goal.loop-x-init
loop-x-init c =
    let L = lists_of c.args.model.now in
    record {
      holds = λ q k e h. lent_none L (has c.args.own.now) q k e _ (c.none-all.ensures.holds q k e);
      grants = λ q k e h. lent_none L (can c.args.own.now) q k e _ (c.none-all.ensures.grants q k e);
    }

pub overflow_cast-x : goal.overflow_cast-x
overflow_cast-x c = omega (arith, few_entities c.args.model.now _ c.entities-x-end.ensures)

pub loop-x-preserved : goal.loop-x-preserved
loop-x-preserved c =
    let m = c.args.model.now in
    let L = lists_of m in
    record {
      holds = λ q k e h. lent_more L (ready m).sound (has c.args.own.now) c.loop-x.x q k e _ _ _ (c.lend.ensures.holds q k e h) (c.above_role.ensures q) (c.loop-x.invariant.holds q k e h);
      grants = λ q k e h. lent_more L (ready m).sound (can c.args.own.now) c.loop-x.x q k e _ _ _ (c.lend.ensures.grants q k e h) (c.above_role.ensures q) (c.loop-x.invariant.grants q k e h);
    }

pub returns : goal.returns
returns c =
    let m = c.args.model.now in
    let L = lists_of m in
    let n : length L.entities ≡ c.loop-x.x = omega (arith, ap length c.entities-x-end.ensures) in
    record {
      holds = λ q k e h. lent_all L (has c.args.own.now) _ _ q k e _ n (c.loop-x.invariant.holds q k e h);
      grants = λ q k e h. lent_all L (can c.args.own.now) _ _ q k e _ n (c.loop-x.invariant.grants q k e h);
    }
