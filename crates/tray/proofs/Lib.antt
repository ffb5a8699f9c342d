pub mod Lent
mod Painting
mod Rectangles
mod One
