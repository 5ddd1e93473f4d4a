use Rattle.std.proofs.Common.{◌≡◌, ◌<◌, List, length, get_or, Some, ap, ◌∙◌, subst, arith}
use Rattle.std.specs.List.{slice_get}
use Rattle.std.proofs.lemmas.List.{length-set}
use Rattle.std.proofs.lemmas.Option.{slice_get-get_or, slice_get_within}
use Rattle.access.specs.declared.code.Object.{Object}
use Rattle.access.specs.declared.code.Object.TheVariants as object
use Rattle.access.specs.declared.code.Runner.TheVariants as runner
use Rattle.access.specs.declared.code.Action.TheVariants as action
use Rattle.access.specs.declared.code.Line.{Line}
use Rattle.fitting.proofs.Finding.{at_in}
use Rattle.session.specs.Models.{lists_of}
use Rattle.holdings.specs.Calls.{Calls}
use Rattle.holdings.proofs.Calling.{alike_more, alike_past}
use Rattle.holdings.proofs.calls.calls.Goals as goal
use Rattle.holdings.proofs.calls.calls.Goals.{then-i-lt-CALLS, else-i-lt-CALLS}

pub call_of-requires : goal.call_of-requires
call_of-requires c = rw (← c.lines-line-items.ensures) (at_in _ _ _ c.loop-i-test.true)

pub loop-i-preserved : goal.loop-i-preserved
loop-i-preserved c =
    let L = lists_of c.args.model.now in
    let h = c.loop-i.invariant in
    let i = c.loop-i.i in
    elim c.if-i-lt-CALLS.branch [
      | then-i-lt-CALLS w ↦
          let inside : i < length c.loop-i.calls = omega (arith, h.long, w.if-i-lt-CALLS.true) in
          let line : Line = get_or c.lines-line-items.result.now i (record { object = object.Procedure 0; runner = runner.Caller; action = action.Call (object.Procedure 0) }) in
          let here : slice_get L.lines i ≡ Some line = subst (λ (ls : List Line). slice_get ls i ≡ Some line) c.lines-line-items.ensures (slice_get-get_or _ i _ c.loop-i-test.true) in
          record {
            long = ap length w.calls-is ∙ length-set c.loop-i.calls i w.call_of.result ∙ h.long;
            told = rw w.calls-is (alike_more (λ x k. (y : Object) → x.action ≡ action.Call y → Calls L x k y) L.lines c.loop-i.calls i line w.call_of.result inside here w.call_of.ensures h.told);
          }
      | else-i-lt-CALLS w ↦
          record {
            long = ap length w.calls-is ∙ h.long;
            told = rw w.calls-is (alike_past (λ x k. (y : Object) → x.action ≡ action.Call y → Calls L x k y) L.lines c.loop-i.calls i (omega (arith, h.long, w.if-i-lt-CALLS.false)) h.told);
          }
    ]

pub returns : goal.returns
returns c i l k y a b =
    c.loop-i.invariant.told i l k (let w = slice_get_within _ i l a in let n = ap length c.lines-line-items.ensures in omega (arith, w, n, c.loop-i-test.false)) a b y
