pub mod PartLaws
pub mod RatioLemmas
pub mod WalkLemmas
