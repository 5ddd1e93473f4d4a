pub mod Copying
pub mod Carrying
pub mod Readiness
pub mod Marking
pub mod Roles
pub mod Rowing
pub mod Reaching
