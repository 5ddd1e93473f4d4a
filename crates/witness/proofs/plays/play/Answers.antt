use Rattle.std.proofs.Common.{◌+◌, arith}
use Rattle.saturation.proofs.Standing.{filled_more}
use Rattle.witness.proofs.Playing.{played_none, played_more}
use Rattle.witness.proofs.plays.play.Goals as goal

pub loop-step-init : goal.loop-step-init
loop-step-init c = record { played = played_none _; few = λ n. filled_more _ _ (omega arith) }

pub play_step-requires : goal.play_step-requires
play_step-requires c =
    let h = c.loop-step.invariant in
    record { room = filled_more _ _ (omega arith) (h.few _ c.requires.room) }

pub loop-step-preserved : goal.loop-step-preserved
loop-step-preserved c =
    let h = c.loop-step.invariant in
    let i = c.loop-step.step-index in
    record {
      played = played_more _ i _ c.loop-step-test.true h.played c.play_step.ensures.played;
      few = λ n f. filled_more _ _ (omega arith) (c.play_step.ensures.few (n + i) (h.few n f));
    }

pub returns-clause-few : goal.returns-clause-few
returns-clause-few c n f = filled_more _ _ (omega arith) (c.loop-step.invariant.few n f)
