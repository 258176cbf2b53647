pub mod RowCounts
pub mod Stacked
pub mod Keys
