pub mod Judged
pub mod Used
pub mod Laws
pub mod Pairs
