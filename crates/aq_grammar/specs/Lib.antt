pub mod Words
pub mod Readers
pub mod Laws
pub mod Results
