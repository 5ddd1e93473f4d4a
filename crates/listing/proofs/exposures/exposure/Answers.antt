use Rattle.std.proofs.Common.{rules}
use Rattle.listing.proofs.Counting.{sound_sized}
use Rattle.listing.proofs.exposures.exposure.Goals as goal

pub exposure_of-requires : goal.exposure_of-requires
exposure_of-requires g c = search (rules, sound_sized)
