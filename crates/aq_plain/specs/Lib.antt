pub mod Vectors
pub mod Wide
pub mod Small
pub mod Listing
pub mod Replaying
