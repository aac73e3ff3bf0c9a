pub mod ReportLemmas
pub mod MadeLemmas
pub mod EndsLemmas
pub mod AcceptedLemmas
pub mod ReadsLemmas
pub mod ReplayLemmas
pub mod StateLemmas
mod TrialLemmas
