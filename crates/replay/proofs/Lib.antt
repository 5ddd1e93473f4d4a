pub mod Playing
pub mod Outcomes
