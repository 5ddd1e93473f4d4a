use Rattle.std.proofs.Common.{sym, subst, arith}
use Rattle.session.specs.Models.{lists_of}
use Rattle.extent.specs.declared.extents.Extent.{Extent}
use Rattle.extent.specs.Turns.{Lent}
use Rattle.extent.proofs.Growing.{larger_same, grown_trans}
use Rattle.extent.proofs.Turning.{begun_wider}
use Rattle.extent.proofs.extents.Extent.begin.Goals as goal

pub returns-clause-grown : goal.returns-clause-grown
returns-clause-grown c = grown_trans c.turns.ensures.grown c.lend.ensures.grown

pub returns-clause-begun : goal.returns-clause-begun
returns-clause-begun c a i b =
    begun_wider (lists_of c.args.model.now) c.args.tables.now (larger_same c.args.self.now) c.lend.ensures.grown.larger a (c.turns.ensures.begun a i b)

pub returns-clause-lent : goal.returns-clause-lent
returns-clause-lent c q =
    let same = sym (c.lend.ensures.grown.quiet (omega (arith, c.turns.ensures.grown.counts, c.lend.ensures.grown.counts, q))) in
    subst (λ (s : Extent). Lent (lists_of c.args.model.now) c.args.tables.now s c.lend.new.self) same c.lend.ensures.done
