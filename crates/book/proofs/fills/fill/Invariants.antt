use Rattle.std.proofs.Common.{◌≡◌, length, take, drop}
use Rattle.book.proofs.Turning.{Turned}
use Rattle.book.proofs.fills.fill.Given as goal

-- the calls so far are put together and answered
abbrev pub invariant-loop-i : goal.invariant-loop-i
invariant-loop-i g l =
    g.T.Gathers.holds l.on (take l.i l.calls)
    × Turned g.T.Gathers.returns l.calls l.answers l.i
    × (drop (length l.calls) l.answers ≡ drop (length l.calls) l.initial.answers)
