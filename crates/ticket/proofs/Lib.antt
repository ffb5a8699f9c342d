pub mod Boxes
pub mod Records
