use Rattle.std.proofs.Common.{rules}
use Rattle.listing.proofs.Counting.{sound_sized}
use Rattle.listing.proofs.listings.listing.Goals as goal

pub size_of-size-requires : goal.size_of-size-requires
size_of-size-requires g c = search (rules, sound_sized)
