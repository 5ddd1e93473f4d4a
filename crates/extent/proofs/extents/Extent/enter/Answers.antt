use Rattle.std.proofs.Common.{◌≡◌, ◌+◌, ◌*◌, ◌<◌, ◌||◌, eqb, sym, ap, ◌∙◌, subst, arith}
use Rattle.std.proofs.lemmas.Bool.Decides.{nat_tests}
use Rattle.access.specs.Bits.{bit}
use Rattle.access.specs.Places.{place_of}
use Rattle.grid.specs.Grids.{noted}
use Rattle.lookup.specs.Tables.{sort_number, slot_of}
use Rattle.extent.proofs.Acting.{enter_came}
use Rattle.extent.proofs.extents.Extent.enter.Goals as goal

pub returns-clause-came : goal.returns-clause-came
returns-clause-came c L x s m i p r =
    let v = c.args.account in
    let e = c.args.self.now in
    let sort = c.args.sort in
    let place = c.args.place in
    let slot : place + 96 * sort ≡ slot_of x = sym (ap (λ n. n + 96 * sort_number x) p ∙ ap (λ n. place + 96 * n) i) in
    let of : v + 96 * sort ≡ v + 96 * sort_number x = sym (ap (λ n. v + 96 * n) i) in
    enter_came s m v x (subst (λ n. n < 96) (sym p) c.requires.small.1) c.requires.small.2
    (ap (λ n. noted e.entered.rows n (place_of x)) (sym of) ∙ ap (λ n. noted e.entered.rows (v + 96 * sort) n) p ∙ c.requires.new)
    r c.either-self.result c.add.new.self.rows c.add-2.new.self.rows
    (λ d. c.either-self.ensures d ∙ ap (λ b. bit e.places d || b) (c.bit_of-3.ensures d ∙ ap (eqb d) (sym p)))
    (λ z y. grind (arith, nat_tests, c.add.ensures z y, c.bit_of.ensures y, slot))
    (λ z y. grind (arith, nat_tests, c.add-2.ensures z y, c.bit_of-2.ensures y, of, p))
