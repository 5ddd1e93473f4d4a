-- What any list of building calls comes to, from the calls' arguments alone.
use Rattle.std.specs.Prelude.{List, fold}
use Rattle.access.specs.Lists.{Lists, new_lists}
use Rattle.catalogue.specs.Calls.{Outcome, declared, linked, granted, joined, lined}
use Rattle.book.specs.declared.calls.Call.{Call}
use Rattle.book.specs.declared.calls.Call.TheVariants as call

-- one call on the lists that stand
abbrev pub called : Lists → Call → Outcome
called l (call.Declare x) = declared l x.kind x.parent x.owner x.mode
called l (call.Link x) = linked l x.lower x.upper
called l (call.Grant x) = granted l x.principal x.entity x.right x.option
called l (call.Join x) = joined l x.account x.role
called l (call.Line x) = lined l x.object x.runner x.called

-- the lists of a new book after all the calls, each on what those before it left
abbrev pub lists_after : List Call → Lists
lists_after calls = fold (λ l c. (called l c).lists) new_lists calls
