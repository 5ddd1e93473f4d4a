use Rattle.std.proofs.Common.{◌≡◌, ℕ, ◌<◌, ◌||◌, take}
use Rattle.std.specs.List.{list_any}
use Rattle.grid.specs.Grids.{noted}
use Rattle.lookup.specs.Records.{joins}
use Rattle.lookup.proofs.records.note_members.Given as goal

abbrev pub invariant-loop-m : goal.invariant-loop-m
invariant-loop-m l =
    (q a : ℕ) → q < 96 → a < 96 → noted l.members.rows q a ≡ (noted l.initial.members.rows q a || list_any (joins q a) (take l.m-index l.records))
