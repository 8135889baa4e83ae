pub mod CheckingLemmas
pub mod HeadlineLemmas
