pub mod RectCuts
pub mod Regions
pub mod Spans
