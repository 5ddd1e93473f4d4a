use Rattle.std.proofs.Common.{◌≡◌, ℕ, ◌≤◌, false, ◌||◌, eqb, arith}
use Rattle.std.proofs.lemmas.Bool.Decides.{nat_tests}
use Rattle.access.specs.Sets.{told}
use Rattle.session.specs.Models.{lists_of}
use Rattle.session.proofs.Roles.{who_told}
use Rattle.session.proofs.Readiness.{ready}
use Rattle.session.proofs.models.Model.who.Goals as goal

pub returns : goal.returns
returns c =
    let m = c.args.self.now in
    let row = told c.along_roles-who.result.sets in
    let who = told c.add.new.self.sets in
    let here : (q : ℕ) → who q 0 ≡ (row q 0 || eqb q c.args.account) = λ q. grind (arith, nat_tests, c.add.ensures q 0, c.full.ensures 0) in
    let past : (q : ℕ) → 96 ≤ q → who q 0 ≡ false = λ q h. grind (arith, nat_tests, here q, c.along_roles-who.ensures.past q 0 h) in
    who_told (lists_of m) (ready m).sound c.args.account _ (told c.direct_roles.result.sets) row who (λ x h. c.direct_roles.ensures x 0 h) (λ x h. c.along_roles-who.ensures.tells x 0 h) here past
