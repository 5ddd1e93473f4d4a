use Rattle.catalogue.specs.Sound.{Sound}
use Rattle.layer.specs.Stands.{stand_of, meant}
use Rattle.console.proofs.answer_lines.Given as goal

-- what the layer means stays sound
abbrev pub invariant-loop-line : goal.invariant-loop-line
invariant-loop-line g l = Sound (meant (stand_of l.console.layer))
