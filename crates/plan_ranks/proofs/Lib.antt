pub mod NeedLemmas
pub mod LawLemmas
