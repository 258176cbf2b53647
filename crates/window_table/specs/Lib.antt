pub mod Parts
pub mod Entries
pub mod Kept
pub mod Lending
pub mod Keys
