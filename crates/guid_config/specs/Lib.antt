pub mod Values
pub mod Pairs
pub mod Shape
pub mod Reading
pub mod Laws
