-- Which records stand for the same.
use Rattle.std.specs.Prelude.{Bool, true, false, ◌&&◌, ◌==◌}
use Rattle.access.specs.declared.rights.RightRecord.{RightRecord}
use Rattle.access.specs.declared.roles.Link.{Link}
use Rattle.access.specs.declared.roles.Member.{Member}
use Rattle.access.specs.declared.code.Object.{Object}
use Rattle.access.specs.declared.code.Object.TheVariants as object
use Rattle.access.specs.declared.code.Runner.{Runner}
use Rattle.access.specs.declared.code.Runner.TheVariants as runner
use Rattle.access.specs.declared.code.Action.{Action}
use Rattle.access.specs.declared.code.Action.TheVariants as action
use Rattle.access.specs.declared.code.Line.{Line}
use Rattle.access.specs.Numbers.{right_number, event_right}

abbrev pub same_link : Link → Link → Bool
same_link x y = x.lower == y.lower && x.upper == y.upper

-- a right stands by principal, entity and right, whatever its option
abbrev pub same_right : RightRecord → RightRecord → Bool
same_right x y =
    (x.principal == y.principal) && (x.entity == y.entity && right_number x.right == right_number y.right)

abbrev pub same_member : Member → Member → Bool
same_member x y = x.account == y.account && x.role == y.role

abbrev pub same_object : Object → Object → Bool
same_object (object.Procedure x) (object.Procedure y) = x == y
same_object (object.Procedure x) (object.Triggers y b) = false
same_object (object.Procedure x) (object.Created y) = false
same_object (object.Triggers x a) (object.Procedure y) = false
same_object (object.Triggers x a) (object.Triggers y b) = x == y && right_number (event_right a) == right_number (event_right b)
same_object (object.Triggers x a) (object.Created y) = false
same_object (object.Created x) (object.Procedure y) = false
same_object (object.Created x) (object.Triggers y b) = false
same_object (object.Created x) (object.Created y) = x == y

abbrev pub same_runner : Runner → Runner → Bool
same_runner runner.Caller runner.Caller = true
same_runner runner.Caller (runner.Account y) = false
same_runner (runner.Account x) runner.Caller = false
same_runner (runner.Account x) (runner.Account y) = x == y

-- a catalogue's lines only call
abbrev pub same_call : Action → Action → Bool
same_call (action.Call x) (action.Call y) = same_object x y
same_call (action.Call x) (action.Grant h) = false
same_call (action.Call x) (action.Join n) = false
same_call (action.Grant g) b = false
same_call (action.Join m) b = false

abbrev pub same_line : Line → Line → Bool
same_line x y = same_object x.object y.object && (same_runner x.runner y.runner && same_call x.action y.action)
