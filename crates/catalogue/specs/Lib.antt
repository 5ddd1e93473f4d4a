pub mod Tables
pub mod Alike
pub mod Judgements
pub mod Counts
pub mod Sound
pub mod Calls
pub mod Listing
