pub mod Numbers
pub mod Places
pub mod Codes
pub mod Bits
pub mod Sets
pub mod Lists
pub mod Orders
pub mod Exact
