use Rattle.lookup.proofs.Adding.{switch_told}
use Rattle.lookup.proofs.tables.Marks.has.Goals as goal

pub returns-in-Switch : goal.returns-in-Switch
returns-in-Switch c = rw c.in-Switch.is (λ S h k m. switch_told S _ c.in-Switch.to (c.acts.ensures S h m))
