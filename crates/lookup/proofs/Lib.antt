pub mod Telling
pub mod Slots
pub mod Adding
