pub mod Boxes
pub mod First
pub mod Laws
