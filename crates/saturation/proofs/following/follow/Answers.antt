use Rattle.std.proofs.lemmas.Bool.{both_ways}
use Rattle.fitting.proofs.Allowing.{opens_from, fits_from}
use Rattle.runs.specs.Turns.{Tried}
use Rattle.saturation.proofs.Followed.{worker_small}
use Rattle.saturation.proofs.Onwards.{keeps_on}
use Rattle.saturation.proofs.Sweeps.{serves_rowed, ran_small}
use Rattle.saturation.proofs.following.follow.Goals as goal

pub returns-then-not-is_entered-clause-done : goal.returns-then-not-is_entered-clause-done
returns-then-not-is_entered-clause-done c h = absurd (both_ways _ c.if-not-is_entered.true ((c.is_entered.ensures _ c.requires.goes).1 (opens_from h).0))

pub rows-rows-requires-clause-small : goal.rows-rows-requires-clause-small
rows-rows-requires-clause-small c =
    rw c.worker.ensures (worker_small c.requires.goes c.requires.listed ((c.is_entered.ensures _ c.requires.goes).0 c.if-not-is_entered.false))

pub attempt-requires-clause-serves : goal.attempt-requires-clause-serves
attempt-requires-clause-serves c = serves_rowed c.requires.goes (rw c.worker.ensures at c.rows-rows.ensures.rows)

pub attempt-requires-clause-tried : goal.attempt-requires-clause-tried
attempt-requires-clause-tried c = Tried.follow c.requires.listed

pub returns-clause-keeps : goal.returns-clause-keeps
returns-clause-keeps c = keeps_on c.attempt.ensures.grown.onward c.rows-rows.ensures.keeps

pub returns-clause-done : goal.returns-clause-done
returns-clause-done c h =
    let r = c.requires.goes.ran in
    c.attempt.ensures.added.part (opens_from h) (fits_from r.sound (ran_small r) (rw c.worker.ensures at c.rows-rows.ensures.rows) h)
