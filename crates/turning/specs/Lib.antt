pub mod Promises
pub mod Tiles
pub mod Pieces
