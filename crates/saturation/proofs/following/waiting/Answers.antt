use Rattle.std.proofs.lemmas.Bool.{both_ways}
use Rattle.saturation.proofs.Gaining.{enters_already}
use Rattle.saturation.proofs.Standing.{entered_small}
use Rattle.saturation.proofs.following.waiting.Goals as goal

pub returns-in-Call : goal.returns-in-Call
returns-in-Call c L g m v n f = rw c.in-Call.is (enters_already (c.waiting_to.ensures L g m c.in-Call.is v n f))

pub returns-in_default : goal.returns-in_default
returns-in_default c L g m v n f = absurd (both_ways _ f ((c.entrants.ensures _ v (entered_small _ g n) g.ran.marked).1 n))
