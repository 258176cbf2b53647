pub mod LimitLemmas
pub mod OutputLemmas
