use Rattle.std.proofs.Common.{vec_items}
use Rattle.catalogue.specs.Sound.{Sound}
use Rattle.layer.specs.Proposals.{over}
use Rattle.layer_tests.proofs.examples.crowd.Given as goal

-- the layer is sound
abbrev pub invariant-loop : goal.invariant-loop
invariant-loop g l = Sound (over (g.C.Catalogue.meaning l.layer.below) (vec_items l.layer.proposals))
