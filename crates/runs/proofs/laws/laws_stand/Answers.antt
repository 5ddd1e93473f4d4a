use Rattle.runs.proofs.Growing.{larger_allows, larger_runs, runs_grow, runs_append}
use Rattle.runs.proofs.Acting.{acting_is_using}
use Rattle.runs.proofs.Covering.{saturation_covers}
use Rattle.runs.proofs.Realizing.{saturation_tells, rules_are_steps}
use Rattle.runs.proofs.Ordering.{two_orders}
use Rattle.runs.proofs.Closing.{turns_tell}
use Rattle.runs.proofs.Counting.{counts_are_limits}
use Rattle.runs.proofs.laws.laws_stand.Goals as goal

pub returns : goal.returns
returns c = record {
  larger = larger_allows;
  mirrored = larger_runs;
  growing = runs_grow;
  appended = runs_append;
  acting = acting_is_using;
  covered = saturation_covers;
  exact = saturation_tells;
  rules = rules_are_steps;
  orders = two_orders;
  turns = turns_tell;
  limits = counts_are_limits;
}
