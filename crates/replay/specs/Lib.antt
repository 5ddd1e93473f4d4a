pub mod Situations
pub mod Keeping
pub mod Replays
pub mod Questions
pub mod Laws
