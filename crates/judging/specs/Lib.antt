pub mod Pages
pub mod Judging
pub mod Laws
