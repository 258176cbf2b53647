pub mod FrameChanges
pub mod Given
pub mod Live
pub mod UserItems
