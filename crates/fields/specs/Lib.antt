pub mod Fields
pub mod Vectors
