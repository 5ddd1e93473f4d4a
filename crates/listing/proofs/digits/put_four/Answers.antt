use Rattle.listing.proofs.Putting.{puts_then}
use Rattle.listing.proofs.digits.put_four.Goals as goal

pub returns : goal.returns
returns c = puts_then (puts_then c.put_digit-second.ensures c.put_digit-third.ensures) c.put_two.ensures
