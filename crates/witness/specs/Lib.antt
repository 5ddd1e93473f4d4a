pub mod Plays
pub mod Lean
pub mod Witnesses
