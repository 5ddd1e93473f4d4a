use Rattle.listing.proofs.Putting.{puts_then}
use Rattle.listing.proofs.lines.put_line.Goals as goal

pub returns : goal.returns
returns c =
    let exposure = rw c.exposure_of.ensures at c.put_four-end.ensures in
    puts_then (puts_then (puts_then (puts_then (puts_then c.put_two-gap.ensures c.put-marks.ensures) c.put_marks-next.ensures) c.put-exposure.ensures) exposure) c.put.ensures
