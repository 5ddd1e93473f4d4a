use Rattle.std.proofs.Common.{ap, ◌∙◌, rules}
use Rattle.std.proofs.lemmas.Option.{MatchOption-at_none}
use Rattle.access.specs.Bits.{bit}
use Rattle.access.proofs.SetLaws.{bit_zero}
use Rattle.fitting.proofs.Allowing.{opens_from}
use Rattle.saturation.proofs.Standing.{entered_small}
use Rattle.saturation.proofs.Staying.{done_like}
use Rattle.saturation.proofs.following.follow_for_one.Goals as goal
use Rattle.saturation.proofs.following.follow_for_one.Goals.{else-waiting-ne0-via-else-waiting-ne0, else-waiting-ne0-via-then-waiting-ne0+in-None-1}

pub returns-in-Some-clause-done : goal.returns-in-Some-clause-done
returns-in-Some-clause-done c v =
    done_like (c.requires.runs c.in-Some.caller v) (rw c.in-Some.is at (c.entrant.ensures _ c.requires.goes)) c.follow.ensures.done

pub returns-else-waiting-ne0-clause-done : goal.returns-else-waiting-ne0-clause-done
returns-else-waiting-ne0-clause-done c v a =
    let m = (opens_from a).0 in
    elim c.else-waiting-ne0.branch [
      | else-waiting-ne0-via-else-waiting-ne0 w ↦
          c.waiting.ensures _ c.requires.goes c.requires.listed v m (ap (λ n. bit n v) w.if-waiting-ne0.false ∙ bit_zero v)
      | else-waiting-ne0-via-then-waiting-ne0+in-None-1 w ↦
          absurd (MatchOption-at_none {o = w.entrant.result} _ _ (search rules) (w.entrant.ensures _ c.requires.goes) v (entered_small _ c.requires.goes m).1 m)
    ]
