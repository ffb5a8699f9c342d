pub mod Painting
pub mod One
