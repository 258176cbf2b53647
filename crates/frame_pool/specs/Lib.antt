pub mod Cells
pub mod Ports
pub mod Regions
pub mod Runs
pub mod Tapes
pub mod Touched
