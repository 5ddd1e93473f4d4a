use Rattle.std.proofs.Common.{refl, ◌∙◌}
use Rattle.runs.specs.Runs.{ends}
use Rattle.replay.proofs.Playing.{run_more}
use Rattle.replay.proofs.courses.Course.play.Goals as goal

pub loop-i-init : goal.loop-i-init
loop-i-init c = record { lists = refl; run = ends; filled = c.requires.filled }

pub loop-i-preserved : goal.loop-i-preserved
loop-i-preserved c =
    let h = c.loop-i.invariant in
    let added = rw c.allows.ensures.same at c.add.ensures in
    record {
      lists = added.lists ∙ h.lists;
      run = rw added.state (run_more _ _ h.lists c.loop-i-test.true h.run (c.allows.ensures.told.0 c.if-not-allows.false));
      filled = added.few c.loop-i.i h.filled;
    }
