pub mod Tabled
pub mod Models
pub mod Marks
pub mod Rowed
pub mod Reached
