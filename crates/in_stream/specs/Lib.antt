pub mod Received
pub mod Shown
pub mod Seen
pub mod Taking
pub mod Invariant
