pub mod BitLaws
pub mod SetLaws
pub mod Turns
pub mod NumberLaws
pub mod Codes
