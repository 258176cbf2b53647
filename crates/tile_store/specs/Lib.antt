pub mod Spots
pub mod Squares
pub mod Tile
pub mod Held
pub mod Places
pub mod Kept
pub mod Contents
