use Rattle.std.proofs.Common.{◌≡◌, ℕ, ◌<◌, ap, ◌∙◌, subst, ⊎_elim, arith}
use Rattle.std.proofs.lemmas.Bool.{cases_eq}
use Rattle.access.specs.Bits.{bit}
use Rattle.lookup.specs.Tables.{sort_number}
use Rattle.lookup.proofs.Slots.{sort_small}
use Rattle.session.proofs.Readiness.{ready}
use Rattle.extent.proofs.Growing.{grown_same, grown_trans}
use Rattle.fitting.proofs.Smalls.{object_small}
use Rattle.holdings.proofs.Entering.{object_of}
use Rattle.extent.proofs.Placed.{objects_row}
use Rattle.extent.proofs.Rules.{enters_later}
use Rattle.extent.proofs.extents.Extent.lend_to.Goals as goal

pub loop-sort-init : goal.loop-sort-init
loop-sort-init c = record { came = c.requires.came; grown = grown_same _; there = λ x h. absurd (omega arith) }

pub enter_all-requires : goal.enter_all-requires
enter_all-requires c =
    let h = c.loop-sort.invariant in
    let row = objects_row c.requires.told c.loop-sort.sort c.args.places _ _ c.row.ensures c.both-objects.ensures in
    record {
      small = c.loop-sort-test.true;
      account = c.requires.account;
      came = h.came;
      enters = λ x n t. let (p, o) = (row x n).0 t in enters_later x c.args.account h.grown.larger (c.requires.enters x o p);
      places = λ e t. let (x, n, at) = object_of c.loop-sort.sort e c.loop-sort-test.true in
          subst (λ (d : ℕ). d < 96) at (object_small (ready c.args.model.now).sound ((row x n).0 (ap (bit c.both-objects.result) at ∙ t)).1);
    }

pub loop-sort-preserved : goal.loop-sort-preserved
loop-sort-preserved c =
    let h = c.loop-sort.invariant in
    let e = c.enter_all.ensures in
    let row = objects_row c.requires.told c.loop-sort.sort c.args.places _ _ c.row.ensures c.both-objects.ensures in
    record {
      came = e.came;
      grown = grown_trans h.grown e.grown;
      there = λ x l o p. ⊎_elim
          (λ (n : sort_number x ≡ c.loop-sort.sort). e.there x n ((row x n).1 (p, o)))
          (λ ne. e.grown.larger.entered _ _ (h.there x (omega arith) o p))
          (cases_eq (sort_number x) c.loop-sort.sort);
    }

pub returns-clause-there : goal.returns-clause-there
returns-clause-there c x o p = c.loop-sort.invariant.there x (omega (arith, sort_small x, c.loop-sort-test.false)) o p
