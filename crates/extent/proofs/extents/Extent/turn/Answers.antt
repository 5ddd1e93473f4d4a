use Rattle.extent.proofs.Growing.{larger_trans, grown_trans}
use Rattle.extent.proofs.Holding.{held_larger, may_larger}
use Rattle.extent.proofs.extents.Extent.turn.Goals as goal

pub returns-clause-grown : goal.returns-clause-grown
returns-clause-grown c =
    grown_trans c.switch.ensures.grown
    (grown_trans c.grants.ensures.grown (grown_trans c.joins.ensures.grown (grown_trans c.calls.ensures.grown c.take.ensures.grown)))

pub returns-clause-begun : goal.returns-clause-begun
returns-clause-begun c =
    let a = c.args.account in
    let h = c.args.tables.now in
    let p = c.switch.ensures.grown.larger in
    let q = larger_trans p c.grants.ensures.grown.larger in
    let r = larger_trans q c.joins.ensures.grown.larger in
    let s = larger_trans r c.calls.ensures.grown.larger in
    let l = c.take.ensures.grown.larger in
    let m = larger_trans c.calls.ensures.grown.larger l in
    let n = larger_trans c.joins.ensures.grown.larger m in
    let o = larger_trans c.grants.ensures.grown.larger n in
    record {
      switch = λ v i d. o.acted v (c.switch.ensures.done v i d);
      grant = λ z e b d. n.given z e (c.grants.ensures.done z e b (may_larger p h a _ _ d));
      join = λ v i d. m.joined v (c.joins.ensures.done v i (held_larger q h a _ _ d));
      call = λ x i d. l.entered _ _ (c.calls.ensures.done x i (held_larger r h a _ _ d));
      taken = λ x v i b d. c.take.ensures.done x v i (s.entered _ _ b) (held_larger s h a _ _ d);
    }
