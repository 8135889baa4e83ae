pub mod ShareLemmas
pub mod CoverLemmas
pub mod CarriedLemmas
