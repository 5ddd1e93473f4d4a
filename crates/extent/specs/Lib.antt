pub mod Tests
pub mod Shows
pub mod Growth
pub mod Turns
pub mod Reached
