pub mod SearchLaws
pub mod CompareLaws
pub mod ListingLaws
pub mod RunLaws
pub mod ShowLaws
pub mod JudgeLaws
mod ExampleLaws
