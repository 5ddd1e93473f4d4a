-- Building calls of books that differ from the laboratory in one call or two.
use Rattle.std.specs.Prelude.{List, [], ◌∷◌, ◌++◌}
use Rattle.book.specs.declared.calls.Call.{Call}
use Rattle.examples.specs.Calls.{join, entity_calls, line_as, executes, alters, impersonates, laboratory}

abbrev pub by_caller : List Call
by_caller = entity_calls ++ line_as 255 ∷ executes 0 ∷ alters ∷ impersonates ∷ []

abbrev pub with_option : List Call
with_option = entity_calls ++ line_as 3 ∷ executes 1 ∷ impersonates ∷ []

abbrev pub with_sysadmin : List Call
with_sysadmin = laboratory ++ join 4 2 ∷ []
