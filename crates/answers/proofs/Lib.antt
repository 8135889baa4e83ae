pub mod DigitLemmas
pub mod HelpLemmas
pub mod RemedyLemmas
pub mod RowLemmas
pub mod MendLemmas
pub mod ShownLemmas
pub mod WhoLemmas
