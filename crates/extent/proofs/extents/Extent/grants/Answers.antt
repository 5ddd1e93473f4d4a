use Rattle.std.proofs.Common.{◌≡◌, ℕ, ◌<◌, true, ⊎_elim, arith, subst, sym}
use Rattle.std.proofs.lemmas.Bool.{cases_lt}
use Rattle.grid.specs.Grids.{noted}
use Rattle.extent.specs.Tests.{may}
use Rattle.extent.proofs.Growing.{grown_same, grown_trans}
use Rattle.extent.proofs.Holding.{may_larger}
use Rattle.extent.proofs.extents.Extent.grants.Goals as goal

pub loop-k-init : goal.loop-k-init
loop-k-init c = record { came = c.requires.came; grown = grown_same _; given = λ j e l t. absurd (omega arith) }

pub grant-requires : goal.grant-requires
grant-requires c =
    let h = c.loop-k.invariant in
    record { small = omega arith; account = c.requires.account; told = c.requires.told; came = h.came; acted = h.grown.larger.acted _ c.requires.acted }

pub loop-k-preserved : goal.loop-k-preserved
loop-k-preserved c =
    let h = c.loop-k.invariant in
    let e = c.grant.ensures in
    record {
      came = e.came;
      grown = grown_trans h.grown e.grown;
      given = λ j d l t. ⊎_elim
          (λ (below : j < c.loop-k.k). e.grown.larger.given j d (h.given j d below t))
          (λ above.
          let same : j ≡ c.loop-k.k = omega arith in
          let now = subst (λ (k : ℕ). may c.args.tables.now c.args.self.now c.args.account k d ≡ true) same t in
          subst (λ (k : ℕ). noted c.grant.new.self.given.rows k d ≡ true) (sym same)
          (e.done d (may_larger h.grown.larger c.args.tables.now c.args.account c.loop-k.k d now)))
          (cases_lt j c.loop-k.k);
    }

pub returns-clause-done : goal.returns-clause-done
returns-clause-done c k e l t = c.loop-k.invariant.given k e (omega arith) t
