pub mod Exposures
pub mod Puts
pub mod Listings
pub mod Laws
