pub mod Rows
pub mod Spreads
pub mod Taken
