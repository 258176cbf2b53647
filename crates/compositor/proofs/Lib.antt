pub mod BandLemmas
pub mod DrawLemmas
pub mod OutputLemmas
pub mod PixelLemmas
pub mod RowLemmas
pub mod TestLemmas
