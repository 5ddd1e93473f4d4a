use Rattle.std.proofs.Common.{◌||◌, ◌+◌, eqb, sym, ap, ◌∙◌, subst}
use Rattle.access.specs.Bits.{bit}
use Rattle.extent.specs.declared.extents.Extent.{Extent}
use Rattle.extent.specs.Shows.{Came}
use Rattle.extent.proofs.Joining.{join_came}
use Rattle.extent.proofs.extents.Extent.join.Goals as goal

pub returns-clause-came : goal.returns-clause-came
returns-clause-came c L s t m role actor =
    let w = c.either-self.result in
    let h = c.hold_by.ensures in
    subst
    (λ (x : Extent). Came L record { opener = x.opener; acted = x.acted; joined = w; places = x.places; given = x.given; holds = x.holds; grants = x.grants; entrants = x.entrants; entered = x.entered; count = x.count + 1 })
    (sym h.rest)
    (join_came s t m c.args.role role c.requires.new actor w c.hold_by.new.self.holds.rows c.hold_by.new.self.grants.rows
    (λ y. c.either-self.ensures y ∙ ap (λ b. bit c.hold_by.new.self.joined y || b) (c.bit_of.ensures y) ∙ ap (λ (x : Extent). bit x.joined y || eqb y c.args.role) h.rest)
    h.holds h.grants)
