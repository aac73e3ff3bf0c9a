pub mod Tables
pub mod Vectors
pub mod Sizes
pub mod Valid
pub mod ValidExprs
pub mod Caps
pub mod Laws
