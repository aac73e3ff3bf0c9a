pub mod Parts
pub mod Single
pub mod Laws
pub mod Ratios
pub mod Walks
