pub mod Finding
pub mod Deciding
pub mod Smalls
pub mod Owners
pub mod Allowing
pub mod Taking
