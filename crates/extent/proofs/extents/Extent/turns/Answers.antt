use Rattle.std.proofs.Common.{rules, ◌≡◌, true, sym, ◌∙◌}
use Rattle.std.proofs.lemmas.Bool.{both_ways, and_parts}
use Rattle.access.specs.declared.entities.Kind.TheVariants.{Account}
use Rattle.access.specs.Bits.{bit}
use Rattle.grid.proofs.Bitwise.{left_first, left_more, left_none}
use Rattle.session.specs.Models.{lists_of}
use Rattle.runs.specs.Standing.{Is}
use Rattle.extent.specs.Turns.{Begun}
use Rattle.extent.proofs.Growing.{larger_same, grown_same, grown_trans}
use Rattle.extent.proofs.Turning.{begun_wider}
use Rattle.extent.proofs.extents.Extent.turns.Goals as goal

pub loop-account-init : goal.loop-account-init
loop-account-init c =
    rw c.into_iter-account-iterator.ensures.into_iter_gives
    (record {
      came = c.requires.came;
      grown = grown_same _;
      among = λ a b. (c.requires.told.accounts a).0 b;
      done = left_first _ _ _ (search rules) (λ a d f. absurd (both_ways _ f ((c.requires.told.accounts a).1 d.0)));
    })

pub loop-account-preserved-then-has_bit : goal.loop-account-preserved-then-has_bit
loop-account-preserved-then-has_bit c =
    let L = lists_of c.args.model.now in
    let tables = c.args.tables.now in
    let first = c.args.self.now in
    let last = c.turn.new.self in
    let h = c.loop-account.invariant in
    let e = c.turn.ensures in
    let takes = c.in-Some.ensures.steps in
    record {
      came = e.came;
      grown = grown_trans h.grown e.grown;
      among = λ a b. h.among a (and_parts _ _ (sym (takes.1 a) ∙ b)).0;
      done = left_more (λ a. Is L Account a × (bit first.acted a ≡ true)) _ (λ a. Begun L tables a first last) _ _ _ takes
          (λ a b. begun_wider L tables (larger_same first) e.grown.larger a b)
          (λ _. begun_wider L tables h.grown.larger (larger_same last) c.in-Some.account e.begun) h.done;
    }

pub returns-clause-begun : goal.returns-clause-begun
returns-clause-begun c a i b = left_none _ _ _ c.in-None.ensures.steps.0 c.loop-account.invariant.done a (i, b)
