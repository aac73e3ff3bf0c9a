pub mod Examples
pub mod Finding
pub mod Listing
pub mod Refuting
