use Rattle.std.proofs.Common.{◌≡◌, length}
use Rattle.access.specs.declared.code.Object.{Object}
use Rattle.access.specs.declared.code.Action.TheVariants as action
use Rattle.session.specs.Models.{lists_of}
use Rattle.holdings.specs.Calls.{Calls}
use Rattle.holdings.proofs.Calling.{Alike}
use Rattle.holdings.proofs.calls.calls.Given as goal

-- the lines before this one have their numbers
abbrev pub invariant-loop-i : goal.invariant-loop-i
invariant-loop-i l =
    let L = lists_of l.model in
    record {
      long : length l.calls ≡ 272;
      told : Alike (λ x c. (y : Object) → x.action ≡ action.Call y → Calls L x c y) L.lines l.i l.calls;
    }
