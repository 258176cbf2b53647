pub mod CountLemmas
pub mod OrderLemmas
pub mod KeyLemmas
pub mod IndexLemmas
