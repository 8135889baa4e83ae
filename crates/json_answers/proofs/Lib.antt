mod MemberLemmas
mod ReadingLemmas
pub mod TitleLemmas
