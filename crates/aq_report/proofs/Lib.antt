pub mod EntriesLemmas
pub mod Splits
pub mod ReportLaws
