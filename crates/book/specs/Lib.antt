pub mod Meaning
pub mod Gathered
pub mod Turns
