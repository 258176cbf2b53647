pub mod Alone
pub mod Isolation
pub mod Masks
