use Rattle.std.proofs.Common.{◌≡◌, ℕ, sym, ap, ◌∙◌, ◌||◌, arith}
use Rattle.std.specs.List.{slice_get}
use Rattle.std.proofs.lemmas.Option.{slice_get-get_or, slice_get_past}
use Rattle.std.proofs.lemmas.Bool.Decides.{nat_tests}
use Rattle.access.specs.Bits.{bit}
use Rattle.access.proofs.BitLaws.{bit_or_lem}
use Rattle.access.proofs.SetLaws.{bit_zero}
use Rattle.order.proofs.RowLaws.{one_first, one_none}
use Rattle.holdings.specs.Giving.{is_host}
use Rattle.holdings.proofs.Marking.{all_marked}
use Rattle.holdings.proofs.kinds.hosts.Goals as goal
use Rattle.holdings.proofs.kinds.hosts.Goals.{then-can_host, else-can_host}

pub loop-x-init : goal.loop-x-init
loop-x-init c k = grind (arith, nat_tests, bit_zero k)

pub loop-x-preserved : goal.loop-x-preserved
loop-x-preserved c =
    let es = c.args.entities.now in
    let x = c.loop-x.x in
    let test = is_host in
    let this : test (slice_get es x) ≡ c.can_host.result = ap test (slice_get-get_or es x _ c.loop-x-test.true) ∙ sym c.can_host.ensures in
    elim c.if-can_host.branch [
      | then-can_host w ↦ λ k. ap (λ (n : ℕ). bit n k) w.bits-is
          ∙ one_first k x _ _ _ (c.loop-x.invariant k) (bit_or_lem _ _ k ∙ ap (λ b. bit c.loop-x.bits k || b) (w.bit_of-bits.ensures k))
          (λ e. ap (λ (n : ℕ). test (slice_get es n)) e ∙ this ∙ w.if-can_host.true)
      | else-can_host w ↦ λ k. ap (λ (n : ℕ). bit n k) w.bits-is
          ∙ one_none k x _ _ (c.loop-x.invariant k) (λ e. ap (λ (n : ℕ). test (slice_get es n)) e ∙ this ∙ w.if-can_host.false)
    ]

pub returns : goal.returns
returns c k = all_marked k _ _ _ (c.loop-x.invariant k) (λ h. ap (is_host) (slice_get_past c.args.entities.now k (omega arith)))
