use Rattle.std.proofs.Common.{◌≡◌, ◌<◌, ⊎_elim, arith}
use Rattle.std.proofs.lemmas.Bool.{cases_lt}
use Rattle.lookup.specs.Tables.{sort_number}
use Rattle.session.proofs.Readiness.{ready}
use Rattle.lookup.proofs.Slots.{sort_small}
use Rattle.extent.proofs.Growing.{grown_same, grown_trans}
use Rattle.extent.proofs.Callable.{places_from, place_in, place_small, place_enters}
use Rattle.extent.proofs.extents.Extent.calls.Goals as goal

pub loop-sort-init : goal.loop-sort-init
loop-sort-init c = record { came = c.requires.came; grown = grown_same _; entered = λ x o l t. absurd (omega arith) }

pub enter_all-requires : goal.enter_all-requires
enter_all-requires c =
    let h = c.loop-sort.invariant in
    let places = places_from c.args.tables.now c.loop-sort.self c.args.account c.loop-sort.sort _ _ _ _ c.held-open.ensures c.row.ensures c.both-places.ensures c.right_of.ensures.right in
    record {
      small = c.loop-sort-test.true;
      account = c.requires.account;
      came = h.came;
      enters = place_enters c.requires.told places c.requires.account (h.grown.larger.acted _ c.requires.acted);
      places = place_small c.requires.told places (ready c.args.model.now).sound c.loop-sort-test.true;
    }

pub loop-sort-preserved : goal.loop-sort-preserved
loop-sort-preserved c =
    let h = c.loop-sort.invariant in
    let e = c.enter_all.ensures in
    let places = places_from c.args.tables.now c.loop-sort.self c.args.account c.loop-sort.sort _ _ _ _ c.held-open.ensures c.row.ensures c.both-places.ensures c.right_of.ensures.right in
    record {
      came = e.came;
      grown = grown_trans h.grown e.grown;
      entered = λ x o l t. ⊎_elim
          (λ (below : sort_number x < c.loop-sort.sort). e.grown.larger.entered _ _ (h.entered x o below t))
          (λ above.
          let same : sort_number x ≡ c.loop-sort.sort = omega arith in
          e.there x same (place_in c.requires.told places h.grown.larger x same o t))
          (cases_lt (sort_number x) c.loop-sort.sort);
    }

pub returns-clause-done : goal.returns-clause-done
returns-clause-done c x o t = c.loop-sort.invariant.entered x o (omega (arith, sort_small x)) t
