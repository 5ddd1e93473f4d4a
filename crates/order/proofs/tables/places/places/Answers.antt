use Rattle.std.proofs.Common.{◌&&◌, ◌||◌, eqb, ap, ◌∙◌, arith}
use Rattle.std.proofs.lemmas.Option.{slice_get-get_or}
use Rattle.std.proofs.lemmas.Bool.Decides.{nat_tests, Decides-like}
use Rattle.order.specs.Rows.{leq}
use Rattle.order.proofs.TreeLaws.{place_step, stands_is, below_stands, within_stands}
use Rattle.order.proofs.tables.places.places.Goals as goal

pub loop-x-preserved : goal.loop-x-preserved
loop-x-preserved c =
    let es = c.args.entities.now in
    let x = c.loop-x.x in
    let old = c.loop-x.relation.rows in
    record {
      elements = λ k. grind (arith, nat_tests, c.put.ensures.elements k, c.loop-x.invariant.elements k);
      exact = place_step es c.requires.rooted x _ (slice_get-get_or es x _ c.loop-x-test.true) old c.put.new.self.rows c.loop-x.invariant.exact
          (λ k y. c.put.ensures.rows k y ∙ ap (λ b. leq old k y || (eqb k x && (eqb y x || b))) (c.at.ensures y));
    }

pub returns-clause-elements : goal.returns-clause-elements
returns-clause-elements c x = grind (arith, nat_tests, c.loop-x.invariant.elements x, stands_is c.args.entities.now x)

pub returns-clause-exact : goal.returns-clause-exact
returns-clause-exact c x y =
    let es = c.args.entities.now in
    let past = c.loop-x-test.false in
    Decides-like _ (λ p. p.1) (λ w. (let h = below_stands es x (within_stands es w) in omega arith, w)) (c.loop-x.invariant.exact x y)
