pub mod Commands
pub mod TestRows
