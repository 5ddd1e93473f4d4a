-- What a derived equality tells: the two are the same.
use Rattle.std.specs.Prelude.{◌≡◌, true}
use Rattle.std.proofs.Common.{rules}
use Rattle.std.proofs.lemmas.Bool.{and_parts}
use Rattle.access.specs.declared.rights.Right.{Right}
use Rattle.access.specs.declared.code.Object.{Object}
use Rattle.access.specs.declared.code.Runner.{Runner}
use Rattle.access.specs.declared.code.Action.{Action}
use Rattle.access.specs.declared.code.Line.{Line}
use Rattle.access.specs.declared.rights.RightRecord.{RightRecord}
use Rattle.access.specs.contracts.code.ActionPartialEq.TheImpl as of_action
use Rattle.access.specs.contracts.code.LinePartialEq.TheImpl as of_line
use Rattle.access.specs.contracts.rights.RightRecordPartialEq.TheImpl as of_right_record
use Rattle.access.specs.contracts.rights.RightPartialEq.TheImpl as of_right
use Rattle.access.specs.contracts.code.ObjectPartialEq.TheImpl as of_object
use Rattle.access.specs.contracts.code.RunnerPartialEq.TheImpl as of_runner

pub right_same : (a b : Right) → of_right.ghosts.eq a b ≡ true → a ≡ b
right_same = search rules

pub object_same : (a b : Object) → of_object.ghosts.eq a b ≡ true → a ≡ b
object_same = search rules

pub runner_same : (a b : Runner) → of_runner.ghosts.eq a b ≡ true → a ≡ b
runner_same = search rules

pub action_same : (a b : Action) → of_action.ghosts.eq a b ≡ true → a ≡ b
action_same = search rules

pub right_record_same : (a b : RightRecord) → of_right_record.ghosts.eq a b ≡ true → a ≡ b
right_record_same a b p =
    let right : a.right ≡ b.right = right_same a.right b.right (and_parts _ _ (and_parts _ _ (and_parts _ _ p).1).1).0 in
    search rules

pub line_same : (a b : Line) → of_line.ghosts.eq a b ≡ true → a ≡ b
line_same a b p =
    let object : a.object ≡ b.object = object_same a.object b.object (and_parts _ _ p).0 in
    let runner : a.runner ≡ b.runner = runner_same a.runner b.runner (and_parts _ _ (and_parts _ _ p).1).0 in
    let action : a.action ≡ b.action = action_same a.action b.action (and_parts _ _ (and_parts _ _ p).1).1 in
    search rules
