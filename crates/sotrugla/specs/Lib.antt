pub mod Files
pub mod Hiding
pub mod Pages
pub mod Reasons
pub mod Version
