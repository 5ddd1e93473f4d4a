-- The laws of exposures and listings.
use Rattle.std.specs.Prelude.{◌≡◌, ℕ, ◌≤◌, List}
use Rattle.access.specs.Lists.{Lists}
use Rattle.listing.specs.Exposures.{Exposed}
use Rattle.listing.specs.Listings.{Listing}

-- an account has one exposure, of at most a thousand thousandths
abbrev pub OneExposure : Type 0
OneExposure = (L : Lists) (a x y : ℕ) → Exposed L a x → Exposed L a y → x ≡ y

abbrev pub ExposuresBounded : Type 0
ExposuresBounded = (L : Lists) (a x : ℕ) → Exposed L a x → x ≤ 1000

-- a catalogue has one listing
abbrev pub OneListing : Type 0
OneListing = (L : Lists) (text other : List ℕ) → Listing L text → Listing L other → text ≡ other
