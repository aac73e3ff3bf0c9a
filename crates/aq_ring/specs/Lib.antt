pub mod Quads
pub mod Fractions
pub mod Amplitudes
pub mod Gathered
pub mod Norms
pub mod Laws
pub mod Vectors
pub mod Small
