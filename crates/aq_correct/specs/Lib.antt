pub mod WorldLaws
pub mod OwingLaws
