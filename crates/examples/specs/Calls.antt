-- Building calls by their numbers, and those that build the laboratory.
use Rattle.std.specs.Prelude.{ℕ, List, [], ◌∷◌, ◌++◌}
use Rattle.access.specs.declared.numbers.ObjectNumbers.{ObjectNumbers}
use Rattle.book.specs.declared.calls.Call.{Call}
use Rattle.book.specs.declared.calls.Call.TheVariants as call

abbrev pub declare : ℕ → ℕ → ℕ → ℕ → Call
declare k p o m = call.Declare (record { kind = k; parent = p; owner = o; mode = m })

abbrev pub link : ℕ → ℕ → Call
link l u = call.Link (record { lower = l; upper = u })

abbrev pub grant : ℕ → ℕ → ℕ → ℕ → Call
grant p e r o = call.Grant (record { principal = p; entity = e; right = r; option = o })

abbrev pub join : ℕ → ℕ → Call
join a r = call.Join (record { account = a; role = r })

abbrev pub line : ObjectNumbers → ℕ → ObjectNumbers → Call
line x w y = call.Line (record { object = x; runner = w; called = y })

-- the numbers of a procedure
abbrev pub procedure : ℕ → ObjectNumbers
procedure e = record { kind = 0; entity = e; right = 0 }

-- the numbers of the triggers of a table, by the right that sets them off
abbrev pub triggers : ℕ → ℕ → ObjectNumbers
triggers e r = record { kind = 1; entity = e; right = r }

-- accounts 3 and 4, a container of account 3 with table 6 and procedure 7, and account 8
abbrev pub entity_calls : List Call
entity_calls = declare 3 0 3 0 ∷ declare 3 0 4 0 ∷ declare 0 0 3 1 ∷ declare 1 5 3 0 ∷ declare 2 5 3 0 ∷ declare 3 0 8 0 ∷ []

-- procedure 7 sets off the triggers of table 6 as this runner
abbrev pub line_as : ℕ → Call
line_as w = line (procedure 7) w (triggers 6 1)

-- account 4 may execute procedure 7, with the option or not
abbrev pub executes : ℕ → Call
executes o = grant 4 7 5 o

-- account 4 may alter table 6
abbrev pub alters : Call
alters = grant 4 6 4 0

-- account 8 may impersonate account 4
abbrev pub impersonates : Call
impersonates = grant 8 4 6 0

abbrev pub laboratory : List Call
laboratory = entity_calls ++ line_as 3 ∷ executes 0 ∷ alters ∷ impersonates ∷ []

abbrev pub without_alter : List Call
without_alter = entity_calls ++ line_as 3 ∷ executes 0 ∷ impersonates ∷ []
