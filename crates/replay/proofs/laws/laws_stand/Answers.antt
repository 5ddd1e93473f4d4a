use Rattle.replay.proofs.Outcomes.{one_outcome, accepts_runs}
use Rattle.replay.proofs.laws.laws_stand.Goals as goal

pub returns : goal.returns
returns c = record { outcome = one_outcome; accepted = accepts_runs }
