use Rattle.std.proofs.lemmas.Bool.Decides.{not_from_Decides}
use Rattle.witness.proofs.Playing.{played_done, played_skipped}
use Rattle.witness.proofs.plays.play_step.Goals as goal

pub returns-then-allows-clause-played : goal.returns-then-allows-clause-played
returns-then-allows-clause-played c =
    let added = rw c.allows.ensures.same at c.add.ensures in
    played_done (c.allows.ensures.told.0 c.if-allows.true) added.lists added.state added.steps

pub returns-then-allows-clause-few : goal.returns-then-allows-clause-few
returns-then-allows-clause-few c n f = (rw c.allows.ensures.same at c.add.ensures.few) n f

pub returns-else-allows-clause-played : goal.returns-else-allows-clause-played
returns-else-allows-clause-played c =
    rw c.allows.ensures.same (played_skipped (not_from_Decides _ c.allows.ensures.told c.if-allows.false))
