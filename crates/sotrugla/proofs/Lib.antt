pub mod Named
pub mod Sides
pub mod Worked
