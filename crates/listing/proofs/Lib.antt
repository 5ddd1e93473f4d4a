pub mod Counting
pub mod Putting
pub mod Accounts
pub mod Lining
pub mod Exposing
