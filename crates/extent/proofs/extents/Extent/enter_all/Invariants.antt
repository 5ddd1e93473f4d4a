use Rattle.std.proofs.Common.{◌≡◌, ◌+◌, ◌*◌, true}
use Rattle.access.specs.Bits.{bit}
use Rattle.grid.specs.Grids.{noted}
use Rattle.session.specs.Models.{lists_of}
use Rattle.extent.specs.Shows.{Came}
use Rattle.extent.specs.Growth.{Grown}
use Rattle.extent.proofs.Filling.{Filling}
use Rattle.extent.proofs.extents.Extent.enter_all.Given as goal

-- the places that are left are those where the account did not enter the object yet
abbrev pub invariant-loop-place : goal.invariant-loop-place
invariant-loop-place l = record {
  came : Came (lists_of l.model) l.self;
  grown : Grown l.initial.self l.self;
  filling : Filling (λ e. bit l.places e ≡ true) (λ e. noted l.self.entered.rows (l.account + 96 * l.sort) e) l.place-iterator.0;
}
