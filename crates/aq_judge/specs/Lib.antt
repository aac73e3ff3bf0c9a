pub mod Certified
pub mod Refuting
pub mod Examples
