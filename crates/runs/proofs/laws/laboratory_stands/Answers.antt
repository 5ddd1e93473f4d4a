use Rattle.runs.specs.Laboratory.{lab_steps}
use Rattle.runs.proofs.Example.{lab_sound, lab_use, lab_acts}
use Rattle.runs.proofs.laws.laboratory_stands.Goals as goal

pub returns : goal.returns
returns c = record { sound = lab_sound; steps = lab_use; uses = (lab_steps, lab_use); acts = lab_acts }
