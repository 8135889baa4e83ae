pub mod PiecesLemmas
pub mod MarkedLemmas
pub mod RowLemmas
pub mod WordsLemmas
pub mod JoinLemmas
