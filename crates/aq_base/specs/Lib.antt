pub mod Limits
pub mod Checks
