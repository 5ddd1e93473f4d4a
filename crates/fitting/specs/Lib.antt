pub mod Fits
pub mod Smalls
