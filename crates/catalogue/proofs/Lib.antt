pub mod Search
pub mod Placing
pub mod Judging
pub mod Standing
pub mod Declaring
pub mod Linking
pub mod Unique
pub mod Keeping
