pub mod ListLemmas
pub mod KeyedLemmas
pub mod LinkLemmas
pub mod MaskLemmas
