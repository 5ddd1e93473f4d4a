pub mod Playing
pub mod Trying
pub mod Giving
