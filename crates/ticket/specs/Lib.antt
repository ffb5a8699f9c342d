pub mod Boxes
pub mod Judging
pub mod Reading
pub mod Allowed
pub mod Laws
pub mod Worked
