use Rattle.listing.proofs.Exposing.{one_exposure, exposures_bounded}
use Rattle.listing.proofs.Lining.{one_listing}
use Rattle.listing.proofs.laws.laws_stand.Goals as goal

pub returns : goal.returns
returns c = record { exposure = one_exposure; bound = exposures_bounded; listing = one_listing }
