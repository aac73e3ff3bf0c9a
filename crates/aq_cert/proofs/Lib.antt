pub mod MemberLemmas
pub mod StepLemmas
pub mod AlikeLemmas
pub mod HeldLemmas
pub mod PlaceLemmas
pub mod PlacedLemmas
pub mod ReadLemmas
pub mod ValidLemmas
