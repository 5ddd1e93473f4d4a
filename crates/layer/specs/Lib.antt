pub mod Proposals
pub mod Stands
pub mod Changes
