use Rattle.std.proofs.Common.{◌≡◌, Some, length, ap, ◌∙◌, subst, ⊎_elim, arith}
use Rattle.std.specs.List.{slice_get}
use Rattle.std.proofs.lemmas.Bool.{cases_lt}
use Rattle.std.proofs.lemmas.Option.{slice_get-get_or}
use Rattle.fitting.proofs.Finding.{in_listed}
use Rattle.session.specs.Models.{lists_of}
use Rattle.extent.proofs.Growing.{grown_same, grown_trans, larger_same}
use Rattle.extent.proofs.Turning.{followed_wider}
use Rattle.extent.proofs.extents.Extent.follow_each.Goals as goal

pub loop-i-init : goal.loop-i-init
loop-i-init c = record { came = c.requires.came; grown = grown_same _; done = λ j x h. absurd (omega (arith, h)) }

pub loop-i-preserved : goal.loop-i-preserved
loop-i-preserved c =
    let L = lists_of c.args.model.now in
    let tables = c.args.tables.now in
    let h = c.loop-i.invariant in
    let e = c.follow_at.ensures in
    record {
      came = e.came;
      grown = grown_trans h.grown e.grown;
      done = λ j x m a.
          ⊎_elim
          (λ n. followed_wider L tables (larger_same c.args.self.now) e.grown.larger x (h.done j x n a))
          (λ n.
          let same : j ≡ c.loop-i.i = omega (arith, m, n) in
          followed_wider L tables h.grown.larger (larger_same c.follow_at.new.self) x (e.done x (subst (λ k. slice_get L.lines k ≡ Some x) same a)))
          (cases_lt j c.loop-i.i);
    }

pub returns-clause-done : goal.returns-clause-done
returns-clause-done c l m =
    let L = lists_of c.args.model.now in
    let (k, h, e) = in_listed L.lines m in
    let n = ap length c.lines-i-end.ensures in
    c.loop-i.invariant.done k l (omega (arith, h, n, c.loop-i-test.false)) (slice_get-get_or L.lines k l h ∙ ap Some e)
