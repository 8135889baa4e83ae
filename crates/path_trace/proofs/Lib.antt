pub mod FollowingLemmas
pub mod KeptLemmas
pub mod TellingLemmas
