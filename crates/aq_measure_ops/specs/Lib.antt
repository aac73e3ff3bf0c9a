pub mod Budget
pub mod Joining
pub mod Padding
pub mod Projection
