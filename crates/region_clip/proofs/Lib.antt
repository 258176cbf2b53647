pub mod CutLemmas
pub mod RegionLemmas
pub mod SpanLemmas
