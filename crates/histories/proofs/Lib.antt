pub mod CountLemmas
pub mod KeepLemmas
pub mod ExplainLemmas
pub mod SeenLemmas
