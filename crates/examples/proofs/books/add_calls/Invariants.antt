use Rattle.std.proofs.Common.{◌≡◌, take, fold}
use Rattle.book.specs.Gathered.{called}
use Rattle.book.specs.Meaning.{lists_of}
use Rattle.examples.proofs.books.add_calls.Given as goal

-- the calls so far are made
abbrev pub invariant-loop-call : goal.invariant-loop-call
invariant-loop-call l = lists_of l.book ≡ fold (λ l c. (called l c).lists) (lists_of l.initial.book) (take l.call-index l.calls)
