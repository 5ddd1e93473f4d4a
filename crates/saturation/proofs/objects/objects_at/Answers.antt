use Rattle.std.proofs.Common.{subst}
use Rattle.access.specs.Lists.{◌∈◌}
use Rattle.saturation.proofs.Turning.{objects_of, object_there, object_only}
use Rattle.saturation.proofs.objects.objects_at.Goals as goal

pub returns : goal.returns
returns c = record { all = λ x e. subst (λ n. x ∈ objects_of n) e (object_there x); only = λ x m. object_only m }
