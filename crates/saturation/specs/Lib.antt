pub mod Kept
pub mod Progress
pub mod Among
