pub mod Bands
pub mod Composed
pub mod PictureView
pub mod TestPanes
