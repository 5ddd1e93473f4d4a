use Rattle.std.proofs.Common.{◌≡◌, ℕ, ◌<◌, Some}
use Rattle.std.specs.List.{slice_get}
use Rattle.access.specs.declared.code.Line.{Line}
use Rattle.session.specs.Models.{lists_of}
use Rattle.extent.specs.Shows.{Came}
use Rattle.extent.specs.Growth.{Grown}
use Rattle.extent.specs.Turns.{Followed}
use Rattle.extent.proofs.extents.Extent.follow_each.Given as goal

-- the lines before this one are followed
abbrev pub invariant-loop-i : goal.invariant-loop-i
invariant-loop-i l =
    let L = lists_of l.model in
    record {
      came : Came L l.self;
      grown : Grown l.initial.self l.self;
      done : (j : ℕ) (x : Line) → j < l.i → slice_get L.lines j ≡ Some x → Followed L l.tables x l.initial.self l.self;
    }
