pub mod StandsLemmas
pub mod TakingLemmas
pub mod FrontLemmas
pub mod CallerLemmas
