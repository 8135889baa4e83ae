pub mod OrderLemmas
pub mod FrameLemmas
pub mod PreservationLemmas
pub mod PairLemmas
pub mod RemovalLemmas
pub mod SharedLemmas
