pub mod JointLemmas
pub mod SetLemmas
