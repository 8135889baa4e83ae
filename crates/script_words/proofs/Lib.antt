pub mod FormLemmas
pub mod EventLemmas
pub mod EventWordsLemmas
pub mod VerbLemmas
pub mod CommandLemmas
pub mod NumberLemmas
pub mod PieceLemmas
pub mod FormTableLemmas
