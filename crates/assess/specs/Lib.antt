pub mod Judged
pub mod Assessed
