mod FilesLemmas
mod LinesLemmas
pub mod PrintsLemmas
mod ReadersLemmas
