pub mod Over
pub mod Stays
pub mod Passing
